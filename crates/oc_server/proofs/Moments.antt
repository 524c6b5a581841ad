-- Moments after moments.
use Rattle.std.proofs.Common.{◌≡◌, ◌∙◌, ℕ, zero, suc, Option, None, Some, List, [], ◌∷◌, ◌++◌, inl, inr, refl, subst}
use Rattle.oc_io.specs.DiskView.{DiskView}
use Rattle.oc_keep.specs.Files.{Disks, AllGoOn, AlwaysLeaves, SameDurable}
use Rattle.oc_keep.proofs.Areas.{always_areas, always_either_areas, among}
use Rattle.oc_model.specs.declared.input.Input.{Input}
use Rattle.oc_model.specs.Step.{step}
use Rattle.oc_model.specs.Node.{Header, Node}
use Rattle.oc_deeds.specs.Changes.{Change, after_changes, changes_of, deed_change, with_change}
use Rattle.oc_deeds.specs.Deeds.{Deed, deed_input}
use Rattle.oc_server.specs.Looks.{LooksOn}
use Rattle.oc_deeds.specs.Under.{Idle, Noting, Taking, Under}
use Rattle.oc_server.specs.Scenes.{EndsOn}
use Rattle.oc_server.specs.Moments.{AtEachPrefix, TakesOne, node_after}

-- a change is made before changes
pub changed_first : (n : Node) (o : Option Change) (cs : List Change) → after_changes n (with_change o cs) ≡ after_changes (after_changes n (with_change o [])) cs
changed_first n None cs = refl
changed_first n (Some c) cs = refl

module _ {D : Type 0} (view : D → DiskView) (h : Header) (me : ℕ) where
  -- one call
  pub one_look : (n : Node) (d e : Disks D) → AllGoOn view d e → AlwaysLeaves view h me d e (SameDurable n) → (k : ℕ) × LooksOn view h me n k d e
  one_look n d e on leaves = (1, (e, record { goes_on = on; any_moment = leaves }, refl))

  -- calls after calls
  pub looks_on : (n : Node) (j : ℕ) (d e f : Disks D) → LooksOn view h me n j d e → (k : ℕ) × LooksOn view h me n k e f → (m : ℕ) × LooksOn view h me n m d f
  looks_on n zero d e f same more = subst (λ (x : Disks D). (k : ℕ) × LooksOn view h me n k x f) same more
  looks_on n (suc j) d e f (at, leaves, rest) more =
      let all = looks_on n j at e f rest more in
      (suc (all.0), (at, leaves, all.1))

  module _ {K : Type 0} (takes : K → List ℕ → K → Type 0) (says : Deed → List ℕ) where
    -- no deeds after looks
    pub prefix_none : (n : Node) (d e : Disks D) (s t : K) → (k : ℕ) × LooksOn view h me n k d e → t ≡ s → AtEachPrefix view h me takes says [] n d s e t
    prefix_none n d e s t looks same = (looks.0, looks.1, same)

    -- one deed after looks
    pub prefix_one : (x : Deed) (n : Node) (d at e : Disks D) (s t : K) → (k : ℕ) × LooksOn view h me n k d at → TakesOne view h me (deed_input x) n at e → takes s (says x) t
        → AtEachPrefix view h me takes says (x ∷ []) n d s e t
    prefix_one x n d at e s t looks taken text = (looks.0, at, e, t, looks.1, taken, text, (0, refl, refl))

    -- deeds after looks
    prefix_looks : (ds : List Deed) (n : Node) (j : ℕ) (d e f : Disks D) (s t u : K) → LooksOn view h me n j d e → t ≡ s → AtEachPrefix view h me takes says ds n e t f u
        → AtEachPrefix view h me takes says ds n d s f u
    prefix_looks [] n j d e f s t u looks same (k, rest, kept) =
        let all = looks_on n j d e f looks (k, rest) in
        (all.0, all.1, kept ∙ same)
    prefix_looks (x ∷ xs) n j d e f s t u looks same (k, at, next, v, rest, taken, text, more) =
        let all = looks_on n j d e at looks (k, rest) in
        (all.0, at, next, v, all.1, taken, subst (λ (w : K). takes w (says x) v) same text, more)

    -- deeds after deeds
    pub prefix_then : (ds es : List Deed) (n : Node) (d e f : Disks D) (s t u : K) → AtEachPrefix view h me takes says ds n d s e t
        → AtEachPrefix view h me takes says es (after_changes n (changes_of ds)) e t f u → AtEachPrefix view h me takes says (ds ++ es) n d s f u
    prefix_then [] es n d e f s t u (k, looks, same) second = prefix_looks es n k d e f s t u looks same second
    prefix_then (x ∷ xs) es n d e f s t u (k, at, next, v, looks, taken, text, rest) second = (
      k,
      at,
      next,
      v,
      looks,
      taken,
      text,
      prefix_then xs es (node_after x n) next e f v t u rest
          (subst (λ (m : Node). AtEachPrefix view h me takes says es m e t f u) (changed_first n (deed_change x) (changes_of xs)) second),
    )

-- What crashes leave is the same for all areas
module _ {D : Type 0} (view : D → DiskView) (areas : List ℕ) (h : Header) (me : ℕ) where
  pub looks_areas : (n : Node) (k : ℕ) (d e : Disks D) → LooksOn view h me n k d e → LooksOn view (among areas h) me n k d e
  looks_areas n zero d e same = same
  looks_areas n (suc k) d e (at, safely, rest) = (at, record { goes_on = safely.goes_on; any_moment = always_areas view areas h me d at n safely.any_moment }, looks_areas n k at e rest)

  takes_areas : (o : Option Input) (n : Node) (d e : Disks D) → TakesOne view h me o n d e → TakesOne view (among areas h) me o n d e
  takes_areas None n d e same = same
  takes_areas (Some i) n d e safely = record { goes_on = safely.goes_on; any_moment = always_either_areas view areas h me d e n (step n i).node safely.any_moment }

  pub prefix_areas : {K : Type 0} (takes : K → List ℕ → K → Type 0) (says : Deed → List ℕ) (ds : List Deed) (n : Node) (d e : Disks D) (s t : K) → AtEachPrefix view h me takes says ds n d s e t
      → AtEachPrefix view (among areas h) me takes says ds n d s e t
  prefix_areas takes says [] n d e s t (k, looks, same) = (k, looks_areas n k d e looks, same)
  prefix_areas takes says (x ∷ xs) n d e s t (k, at, next, u, looks, taken, text, rest) =
      (k, at, next, u, looks_areas n k d at looks, takes_areas (deed_input x) n at next taken, text, prefix_areas takes says xs (node_after x n) next e u t rest)

  pub ends_areas : (n : Node) (under : Under) (d e : Disks D) → EndsOn view h me n under d e → EndsOn view (among areas h) me n under d e
  ends_areas n (Taking i) d e (inl safely) = inl (record { goes_on = safely.goes_on; any_moment = always_either_areas view areas h me d e n (step n i).node safely.any_moment })
  ends_areas n (Taking i) d e (inr same) = inr same
  ends_areas n Idle d e (k, looks) = (k, looks_areas n k d e looks)
  ends_areas n (Noting line) d e (k, looks) = (k, looks_areas n k d e looks)
