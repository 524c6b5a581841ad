-- The lines taken of a node's record, and the next ones that can be taken.
use Rattle.std.proofs.Common.{◌≡◌, ℕ, zero, suc, true, Option, Some, List, [], ◌∷◌, ◌++◌, length, map, take, drop, slice_get, refl, ap, sym, ◌∙◌, arith}
use Rattle.std.proofs.lemmas.List.{length-map, map-append, take-append-drop}
use Rattle.oc_base.specs.Lawful.{IsNode}
use Rattle.oc_model.specs.declared.input.Input.{Input}
use Rattle.oc_model.specs.declared.input.Input.TheVariants.{Delivered}
use Rattle.oc_model.specs.Lawful.{IsGiven}
use Rattle.oc_model.specs.Node.{Node, new_node}
use Rattle.oc_model.specs.World.{World, Process, is_up, node}
use Rattle.oc_laws_world.specs.Merges.{Line, after_entries, entries_of, is_any, CanCome, CanFollow}
use Rattle.oc_laws_world.specs.Taking.{IsTaking}
use Rattle.oc_laws_world.proofs.Merged.{IsWorldOf}
use Rattle.oc_laws_world.proofs.Takings.{taken_within}
use Rattle.oc_merge.specs.declared.told.Told.{Told}
use Rattle.oc_merge.specs.declared.told.Told.TheVariants.{Started, Came, Took}
use Rattle.oc_merge.specs.Heads.{CanGo}
use Rattle.oc_merge.specs.Recorded.{are_files, entry_of, fits, found_in, line_of, message_of, own_told, recorded}
use Rattle.oc_merge.specs.Records.{IsTold}
use Rattle.oc_merge.specs.Told.{Records}
use Rattle.oc_merge.proofs.Own.{entries_own, own-append}

-- Lists

-- two lists that are equal begin with the same, as far as that is as long
pub same_front : {A : Type 0} (ws xs ys zs : List A) → length ws ≡ length ys → ws ++ xs ≡ ys ++ zs → (ws ≡ ys) × (xs ≡ zs)
same_front [] xs [] zs long e = (refl, e)
same_front [] xs (y ∷ ys) zs long e = absurd (cc long)
same_front (w ∷ ws) xs [] zs long e = absurd (cc long)
same_front (w ∷ ws) xs (y ∷ ys) zs long e =
    let first : w ≡ y = cc e in
    let later : ws ++ xs ≡ ys ++ zs = cc e in
    let rest = same_front ws xs ys zs (omega (arith, long)) later in
    (ap (λ v. v ∷ ws) first ∙ ap (λ vs. y ∷ vs) rest.0, rest.1)

pub behind_front : {A : Type 0} (ws : List A) (x : A) (ys : List A) → slice_get (ws ++ x ∷ ys) (length ws) ≡ Some x
behind_front [] x ys = refl
behind_front (w ∷ ws) x ys = behind_front ws x ys

-- the item at a place is the first of the rest from there on
pub drop_at_place : {A : Type 0} (xs : List A) (p : ℕ) (x : A) → slice_get xs p ≡ Some x → drop p xs ≡ x ∷ drop (suc p) xs
drop_at_place [] p x at = absurd (cc at)
drop_at_place (y ∷ ys) zero x at = ap (λ z. z ∷ ys) (cc at)
drop_at_place (y ∷ ys) (suc p) x at = drop_at_place ys p x at

pub at_dropped : {A : Type 0} (xs : List A) (p : ℕ) (x : A) (rest : List A) → drop p xs ≡ x ∷ rest → slice_get xs p ≡ Some x
at_dropped [] zero x rest e = absurd (cc e)
at_dropped [] (suc p) x rest e = absurd (cc e)
at_dropped (y ∷ ys) zero x rest e = ap Some (cc e)
at_dropped (y ∷ ys) (suc p) x rest e = at_dropped ys p x rest e

-- One node

module _ (digest : Node → List ℕ) (r : Records) (taken : List Line) (w : World) (k : IsWorldOf r.header taken w) (x : ℕ) (is : IsNode r.header.nodes x) where
  own_node : node w x ≡ after_entries (new_node r.header x) (entries_of x taken)
  own_node = ap (λ (p : Process). p.node) (k.processes x is)

  pub own_up : is_up w x ≡ is_any (entries_of x taken)
  own_up = ap (λ (p : Process). p.up) (k.processes x is)

  files_test : (t : Told) → slice_get (own_told x r.lines) (length (entries_of x taken)) ≡ Some t
      → fits digest r x (entries_of x taken) ≡ are_files digest (found_in (Some t)) (node w x)
  files_test t at =
      ap (λ (o : Option Told). are_files digest (found_in o) (after_entries (new_node r.header x) (entries_of x taken))) at
      ∙ ap (λ (n : Node). are_files digest (found_in (Some t)) n) (sym own_node)

  -- a statement that can be taken can be the next event in the world
  pub goes : (t : Told) → slice_get (own_told x r.lines) (length (entries_of x taken)) ≡ Some t → fits digest r x (entries_of x taken) ≡ true
      → CanFollow r.header taken x (entry_of r.header.nodes t) → CanGo digest r.header.nodes w x t
  goes (Started files) at fit can = sym (files_test (Started files) at) ∙ fit
  goes (Came bytes) at fit can = (own_up ∙ can.0, can.1.0, k.kept (message_of r.header.nodes bytes) can.1.1)
  goes (Took i) at fit can = own_up ∙ can.0

  come_of : (i : Input) → IsGiven r.header.nodes x i → CanCome r.header taken x i
  come_of (Delivered m) lawful = absurd lawful
  come_of i lawful = tt

  -- a statement that can be the next event in the world can be taken
  pub follows : (t : Told) → IsTold r.header.nodes x t → CanGo digest r.header.nodes w x t → CanFollow r.header taken x (entry_of r.header.nodes t)
  follows (Started files) lawful can = tt
  follows (Came bytes) lawful can = (sym own_up ∙ can.0, (can.1, k.sent (message_of r.header.nodes bytes) can.2))
  follows (Took i) lawful can = (sym own_up ∙ can, come_of i lawful)

  pub fits_of : (t : Told) → slice_get (own_told x r.lines) (length (entries_of x taken)) ≡ Some t → CanGo digest r.header.nodes w x t → fits digest r x (entries_of x taken) ≡ true
  fits_of (Started files) at can = files_test (Started files) at ∙ can
  fits_of (Came bytes) at can = files_test (Came bytes) at
  fits_of (Took i) at can = files_test (Took i) at

-- The front of one node

module _ (digest : Node → List ℕ) (r : Records) (taken : List Line) (taking : IsTaking (recorded digest r) taken) (x p : ℕ) (count : length (own_told x (take p r.lines)) ≡ length (entries_of x taken)) where
  pub split : own_told x r.lines ≡ own_told x (take p r.lines) ++ own_told x (drop p r.lines)
  split = sym (ap (own_told x) (take-append-drop p r.lines)) ∙ own-append x (take p r.lines) (drop p r.lines)

  parts : entries_of x (map (line_of r.header.nodes) r.lines)
      ≡ map (entry_of r.header.nodes) (own_told x (take p r.lines)) ++ map (entry_of r.header.nodes) (own_told x (drop p r.lines))
  parts = entries_own r.header.nodes x r.lines ∙ (ap (map (entry_of r.header.nodes)) split ∙ map-append (entry_of r.header.nodes) (own_told x (take p r.lines)) (own_told x (drop p r.lines)))

  -- the rest is the part after the place
  pub rest_is : entries_of x (map (line_of r.header.nodes) r.lines) ≡ entries_of x taken ++ map (entry_of r.header.nodes) (own_told x (drop p r.lines))
  rest_is =
      let begun = taken_within (recorded digest r) [] taken (λ y. (entries_of y (map (line_of r.header.nodes) r.lines), refl)) taking x in
      let long : length (entries_of x taken) ≡ length (map (entry_of r.header.nodes) (own_told x (take p r.lines))) = sym (length-map (own_told x (take p r.lines)) (entry_of r.header.nodes) ∙ count) in
      let same = same_front (entries_of x taken) begun.0 (map (entry_of r.header.nodes) (own_told x (take p r.lines))) (map (entry_of r.header.nodes) (own_told x (drop p r.lines))) long (sym begun.1 ∙ parts) in
      parts ∙ ap (λ es. es ++ map (entry_of r.header.nodes) (own_told x (drop p r.lines))) (sym same.0)

  -- a line of x at the place is next
  pub next_told : (t : Told) (ts : List Told) → own_told x (drop p r.lines) ≡ t ∷ ts → slice_get (own_told x r.lines) (length (entries_of x taken)) ≡ Some t
  next_told t ts e =
      ap (λ (i : ℕ). slice_get (own_told x r.lines) i) (sym count)
      ∙ (ap (λ (all : List Told). slice_get all (length (own_told x (take p r.lines)))) (split ∙ ap (λ ts. own_told x (take p r.lines) ++ ts) e)
      ∙ behind_front (own_told x (take p r.lines)) t ts)
