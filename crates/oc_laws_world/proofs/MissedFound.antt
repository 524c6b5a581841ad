-- Missed inputs: each is found, or makes no difference to the start after it.
use Rattle.std.proofs.Common.{◌≡◌, ℕ, ◌+◌, ◌-◌, Bool, true, false, Option, Some, None, List, [], ◌∷◌, ◌++◌, length, drop, Ordering, Less, Equal, Greater, nat_cmp, is_eq, refl, ap, sym, subst, ◌∙◌, arith, length-append, append-nil}
use Rattle.std.specs.Cmp.Lexicographic.{slice_cmp}
use Rattle.oc_base.specs.declared.group.Group.{Group}
use Rattle.oc_base.specs.declared.shelf.Shelf.{Shelf}
use Rattle.oc_base.specs.Groups.{group_or_empty, with_group, shelf_of, shelf}
use Rattle.oc_base.specs.Named.{same_name}
use Rattle.oc_base.proofs.NameOrder.{same_name-itself, names_equal}
use Rattle.oc_model.specs.declared.input.Input.{Input}
use Rattle.oc_model.specs.Node.{Node, restarted}
use Rattle.oc_model.specs.Step.{Piece, piece_of, grown, kept_at, plan, step}
use Rattle.oc_model.proofs.Groups.{group_or_empty-name}
use Rattle.oc_laws_step.proofs.Goes.{IsSame}
use Rattle.oc_laws_step.proofs.Steps.{writes}
use Rattle.oc_laws_world.specs.Merges.{after_entries}
use Rattle.oc_laws_world.specs.Missed.{Deed, Started, Took, Missed, after_deeds, Told, Finds, Tells, record_of, is_missed, without_missed, StartsFit, HaveSameFiles, IsToldApart, IsStory}

-- Changes that leave the list of names, lengths and seals leave the groups

group_same : (a b : Group) → a.name ≡ b.name → a.bytes ≡ b.bytes → a.sealed ≡ b.sealed → a ≡ b
group_same a b name bytes sealed =
    let same : record { name = a.name; bytes = a.bytes; sealed = a.sealed } ≡ record { name = b.name; bytes = b.bytes; sealed = b.sealed } = rw (name, bytes, sealed) refl in
    same

no_more : (xs : List ℕ) → length xs ≡ 0 → xs ≡ []
no_more [] e = refl
no_more (x ∷ xs) e = absurd (omega (arith, e))

-- two groups with the same line are equal where one has the other's bytes and perhaps more
same_line : (k j : Group) (more : List ℕ) → k.bytes ≡ j.bytes ++ more → shelf_of k ≡ shelf_of j → k ≡ j
same_line k j more longer line =
    let held : length k.bytes ≡ length j.bytes = ap (λ (l : Shelf). l.held) line in
    let sum : length k.bytes ≡ length j.bytes + length more = ap length longer ∙ length-append j.bytes more in
    let none : more ≡ [] = no_more more (omega (arith, held, sum)) in
    group_same k j (ap (λ (l : Shelf). l.group) line) (longer ∙ (ap (λ ys. j.bytes ++ ys) none ∙ append-nil j.bytes)) (ap (λ (l : Shelf). l.sealed) line)

-- a group put in the place of a shorter one, or of none, leaves all groups where it leaves the shelf
put_still : (k : Group) (ks : List Group) (more : List ℕ) → k.bytes ≡ (group_or_empty k.name ks).bytes ++ more → shelf (with_group k ks) ≡ shelf ks → with_group k ks ≡ ks
put_still k [] more longer still = absurd cc
put_still k (j ∷ js) more longer still = by_order (put_still k js more) (slice_cmp nat_cmp k.name j.name) refl where
  here : slice_cmp nat_cmp k.name j.name ≡ Equal → k.bytes ≡ j.bytes ++ more
  here e = rw (ap is_eq e) at longer

  there : slice_cmp nat_cmp k.name j.name ≡ Greater → k.bytes ≡ (group_or_empty k.name js).bytes ++ more
  there e = rw (ap is_eq e) at longer

  by_order : (k.bytes ≡ (group_or_empty k.name js).bytes ++ more → shelf (with_group k js) ≡ shelf js → with_group k js ≡ js) → (o : Ordering) → slice_cmp nat_cmp k.name j.name ≡ o → with_group k (j ∷ js) ≡ j ∷ js
  by_order rest Less e =
      let more_lines : shelf_of k ∷ shelf_of j ∷ shelf js ≡ shelf_of j ∷ shelf js = rw e at still in
      let count : length (shelf_of k ∷ shelf_of j ∷ shelf js) ≡ length (shelf_of j ∷ shelf js) = ap length more_lines in
      absurd (omega (arith, count))
  by_order rest Equal e =
      let lines : shelf_of k ∷ shelf js ≡ shelf_of j ∷ shelf js = rw e at still in
      let first : shelf_of k ≡ shelf_of j = cc in
      rw e (ap (λ g. g ∷ js) (same_line k j more (here e) first))
  by_order rest Greater e =
      let lines : shelf_of j ∷ shelf (with_group k js) ≡ shelf_of j ∷ shelf js = rw e at still in
      let later : shelf (with_group k js) ≡ shelf js = cc in
      rw e (ap (λ gs. j ∷ gs) (rest (there e) later))

-- a piece that is kept leaves all groups where it leaves the shelf
kept_still : (at : Option ℕ) (ks : List Group) (p : Piece) (closes : Bool) → shelf (kept_at at ks p closes) ≡ shelf ks → kept_at at ks p closes ≡ ks
kept_still None ks p closes still = refl
kept_still (Some at) ks p closes still =
    let k : Group = grown (group_or_empty p.group ks) at p.bytes closes in
    let name : (group_or_empty p.group ks).name ≡ p.group = group_or_empty-name p.group ks in
    put_still k ks (drop (length (group_or_empty p.group ks).bytes - at) p.bytes)
    (ap (λ g. (group_or_empty g ks).bytes ++ drop (length (group_or_empty p.group ks).bytes - at) p.bytes) (sym name)) still

-- A start

restart_same : (a b : Node) → a.control.me ≡ b.control.me → a.control.nodes ≡ b.control.nodes → a.control.chain ≡ b.control.chain → a.control.chunk ≡ b.control.chunk
    → a.control.areas ≡ b.control.areas → a.control.kept ≡ b.control.kept → a.groups ≡ b.groups → restarted a ≡ restarted b
restart_same a b me nodes chain chunk areas kept groups = rw (me, nodes, chain, chunk, areas, kept, groups) refl

-- a start after an input that left the files finds the same as before the input
pub start_still : (n : Node) (i : Input) → HaveSameFiles n (step n i).node → restarted (step n i).node ≡ restarted n
start_still n i files =
    let same : IsSame n.control (step n i).node.control = (writes n.control (shelf n.groups) i).same in
    let o = plan n.control (shelf n.groups) i in
    restart_same (step n i).node n same.me same.nodes same.chain same.chunk same.areas files.0 (kept_still o.keeps n.groups (piece_of i) o.seals files.1)

-- Records

module _ (digest : Node → List ℕ) where
  -- an input that was taken is not held to be missed
  taken_stays : (n : Node) (i : Input) (ds : List Deed) → is_missed digest n i (record_of digest (step n i).node ds) ≡ false
  taken_stays n i [] = refl
  taken_stays n i (Started ∷ ds) = rw (same_name-itself (digest (step n i).node)) refl
  taken_stays n i (Took j ∷ ds) = refl
  taken_stays n i (Missed j ∷ ds) = refl

  abbrev to_start : List Deed → List Deed
  to_start ds = ds ++ Started ∷ []

  abbrev Folds : Node → List Deed → Type 0
  Folds n ds = after_entries n (without_missed digest n (record_of digest n (to_start ds))) ≡ after_deeds n (to_start ds)

  -- a missed input, and the start after it with all that follows
  missed_folds : (n : Node) (i : Input) (ts : List Told) → IsToldApart digest n i
      → after_entries n (without_missed digest n (Tells i ∷ Finds (digest n) ∷ ts)) ≡ after_entries n (without_missed digest n (Finds (digest n) ∷ ts))
  missed_folds n i ts apart = by_test (same_name (digest n) (digest (step n i).node)) refl where
    m : Node
    m = (step n i).node

    by_test : (b : Bool) → same_name (digest n) (digest (step n i).node) ≡ b
        → after_entries n (without_missed digest n (Tells i ∷ Finds (digest n) ∷ ts)) ≡ after_entries n (without_missed digest n (Finds (digest n) ∷ ts))
    by_test true e =
        let files : HaveSameFiles n m = apart (names_equal (digest n) (digest m) e) in
        rw e (ap (λ (s : Node). after_entries s (without_missed digest s ts)) (start_still n i files))
    by_test false e = rw (e, same_name-itself (digest n)) refl

  pub missed_found : (n : Node) (ds : List Deed) → IsStory digest n ds → Folds n ds
  missed_found n [] story = refl
  missed_found n (Started ∷ ds) story = missed_found (restarted n) ds story
  missed_found n (Took i ∷ ds) story =
      let kept : is_missed digest n i (record_of digest (step n i).node (to_start ds)) ≡ false = taken_stays n i (to_start ds) in
      rw kept (missed_found (step n i).node ds story)
  missed_found n (Missed i ∷ []) story = missed_folds n i [] story.1
  missed_found n (Missed i ∷ Started ∷ ds) story = missed_folds n i (record_of digest (restarted n) (to_start ds)) story.1 ∙ missed_found n (Started ∷ ds) story.2
  missed_found n (Missed i ∷ Took j ∷ ds) story = absurd story.0
  missed_found n (Missed i ∷ Missed j ∷ ds) story = absurd story.0

  missed_fits : (n : Node) (i : Input) (ts : List Told) → IsToldApart digest n i → StartsFit digest (restarted n) ts → StartsFit digest n (Tells i ∷ Finds (digest n) ∷ ts)
  missed_fits n i ts apart rest = by_test (same_name (digest n) (digest (step n i).node)) refl where
    m : Node
    m = (step n i).node

    by_test : (b : Bool) → same_name (digest n) (digest m) ≡ b → StartsFit digest n (Tells i ∷ Finds (digest n) ∷ ts)
    by_test true e =
        let alike : digest n ≡ digest m = names_equal (digest n) (digest m) e in
        rw e (sym alike, subst (λ (s : Node). StartsFit digest s ts) (sym (start_still n i (apart alike))) rest)
    by_test false e = rw (e, same_name-itself (digest n)) (refl, rest)

  pub starts_fit : (n : Node) (ds : List Deed) → IsStory digest n ds → StartsFit digest n (record_of digest n ds)
  starts_fit n [] story = tt
  starts_fit n (Started ∷ ds) story = (refl, starts_fit (restarted n) ds story)
  starts_fit n (Took i ∷ ds) story =
      let kept : is_missed digest n i (record_of digest (step n i).node ds) ≡ false = taken_stays n i ds in
      rw kept (starts_fit (step n i).node ds story)
  starts_fit n (Missed i ∷ []) story = tt
  starts_fit n (Missed i ∷ Started ∷ ds) story = missed_fits n i (record_of digest (restarted n) ds) story.1 (starts_fit (restarted n) ds story.2)
  starts_fit n (Missed i ∷ Took j ∷ ds) story = absurd story.0
  starts_fit n (Missed i ∷ Missed j ∷ ds) story = absurd story.0
