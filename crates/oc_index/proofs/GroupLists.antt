-- Groups in a list ascending by name, found or put at an index.
use Rattle.std.proofs.Common.{◌≡◌, ℕ, zero, suc, ◌+◌, ◌<◌, ◌≤◌, Bool, List, [], ◌∷◌, length, drop, get_or, set, Option, Some, None, Greater, nat_cmp, refl, ap, sym, subst, ◌∙◌, arith}
use Rattle.std.specs.Prelude.{insert}
use Rattle.std.specs.Cmp.Lexicographic.{slice_cmp}
use Rattle.std.proofs.lemmas.Cmp.{nat_list_cmp_total, tied_itself}
use Rattle.oc_base.specs.declared.group.Group.{Group}
use Rattle.oc_base.specs.Names.{IsGroupName}
use Rattle.oc_base.specs.declared.shelf.Shelf.{Shelf}
use Rattle.oc_base.specs.Named.{IsFoundAt, IsFreeAt}
use Rattle.oc_base.specs.Groups.{AreAbove, IsAscending, group_of, group_or_empty, or_empty, shelf, shelf_of, with_group}
use Rattle.oc_base.specs.Shelves.{AreLines, AreLinesAbove, IsShelf}
use Rattle.oc_base.proofs.NameOrder.{same_name-itself}
use Rattle.oc_keep.specs.Puts.{CanKeep, CanPut}
use Rattle.oc_model.specs.declared.input.Input.{Input}
use Rattle.oc_model.specs.Step.{Piece, grown, kept_at, piece_of}
use Rattle.oc_model.proofs.Groups.{group_or_empty-name}
use Rattle.oc_state.proofs.Lists.{drop_at}

-- Groups and their lines

-- groups ascend where their lines do
groups_above : (g : List ℕ) (ks : List Group) → AreLinesAbove g (shelf ks) → AreAbove g ks
groups_above g [] above = tt
groups_above g (k ∷ ks) above = (above.0, groups_above g ks above.1)

groups_ascend : (ks : List Group) → AreLines (shelf ks) → IsAscending ks
groups_ascend [] are = tt
groups_ascend (k ∷ ks) are = (groups_above k.name ks are.1, groups_ascend ks are.2)

pub groups_of_shelf : (ks : List Group) → IsShelf (shelf ks) → IsAscending ks
groups_of_shelf ks is = groups_ascend ks is.0

-- the lines from an index on
pub lines_at : (ks : List Group) (i : ℕ) (k : Group) → i < length ks → k ≡ get_or ks i k → shelf (drop i ks) ≡ shelf_of k ∷ shelf (drop (i + 1) ks)
lines_at ks i k within at = ap shelf (drop_at ks i k within at)

-- The index of a name that is found

-- a group is put after one of a lesser name
put_behind : (k j : Group) (js : List Group) → slice_cmp nat_cmp k.name j.name ≡ Greater → with_group k (j ∷ js) ≡ j ∷ with_group k js
put_behind k j js past = rw past

grown_behind : (g : List ℕ) (j : Group) (js : List Group) (start : ℕ) (bytes : List ℕ) (closes : Bool) → slice_cmp nat_cmp g j.name ≡ Greater
    → with_group (grown (group_or_empty g (j ∷ js)) start bytes closes) (j ∷ js) ≡ j ∷ with_group (grown (group_or_empty g js) start bytes closes) js
grown_behind g j js start bytes closes past =
    let other : group_of g (j ∷ js) ≡ group_of g js = rw past in
    ap (λ (found : Option Group). with_group (grown (or_empty g found) start bytes closes) (j ∷ js)) other
    ∙ put_behind (grown (group_or_empty g js) start bytes closes) j js (rw (group_or_empty-name g js) past)

-- the first group is found by its name
found_first : (g : List ℕ) (j : Group) (js : List Group) → j.name ≡ g → group_of g (j ∷ js) ≡ Some j
found_first g j js is = subst (λ (name : List ℕ). group_of name (j ∷ js) ≡ Some j) is (rw (same_name-itself j.name))

-- a group that is found takes its own place
pub put_found : (ks : List Group) (g : List ℕ) (i : ℕ) (k new : Group) (start : ℕ) (bytes : List ℕ) (closes : Bool) → IsFoundAt (λ (k : Group). k.name) ks g i → k ≡ get_or ks i k → new ≡ grown k start bytes closes
    → set ks i new ≡ with_group (grown (group_or_empty g ks) start bytes closes) ks
put_found [] g i k new start bytes closes found at is = absurd found
put_found (j ∷ js) g zero k new start bytes closes found at is =
    let this : group_or_empty g (j ∷ js) ≡ j = ap (or_empty g) (found_first g j js found) in
    let first : with_group (grown j start bytes closes) (j ∷ js) ≡ grown j start bytes closes ∷ js = rw (tied_itself nat_list_cmp_total j.name) in
    ap (λ (n : Group). n ∷ js) (is ∙ ap (λ (m : Group). grown m start bytes closes) at)
    ∙ sym (ap (λ (m : Group). with_group (grown m start bytes closes) (j ∷ js)) this ∙ first)
put_found (j ∷ js) g (suc i) k new start bytes closes found at is =
    ap (λ (rest : List Group). j ∷ rest) (put_found js g i k new start bytes closes found.1 at is) ∙ sym (grown_behind g j js start bytes closes found.0)

-- a group that stays as it was changes nothing
pub put_same : (ks : List Group) (i : ℕ) (k new : Group) → i < length ks → k ≡ get_or ks i k → new ≡ k → set ks i new ≡ ks
put_same [] i k new within at is = absurd (omega (arith, within))
put_same (j ∷ js) zero k new within at is = ap (λ (n : Group). n ∷ js) (is ∙ at)
put_same (j ∷ js) (suc i) k new within at is = ap (λ (rest : List Group). j ∷ rest) (put_same js i k new (omega (arith, within)) at is)

pub found_within : (ks : List Group) (g : List ℕ) (i : ℕ) → IsFoundAt (λ (k : Group). k.name) ks g i → i < length ks
found_within [] g i found = absurd found
found_within (k ∷ ks) g zero found = omega arith
found_within (k ∷ ks) g (suc i) found = let rest = found_within ks g i found.1 in omega (arith, rest)

-- The index of a name that is not found

-- no group of the name is among greater names, and a group is put before them
none_above : (ks : List Group) (g : List ℕ) → AreAbove g ks → group_of g ks ≡ None
none_above [] g above = refl
none_above (k ∷ ks) g above = rw above.0 (none_above ks g above.1)

put_above : (k : Group) (ks : List Group) → AreAbove k.name ks → with_group k ks ≡ k ∷ ks
put_above k [] above = refl
put_above k (j ∷ js) above = rw above.0

-- a new group goes where it would be
pub put_free : (ks : List Group) (g : List ℕ) (i : ℕ) (new : Group) (start : ℕ) (bytes : List ℕ) (closes : Bool) → IsFreeAt (λ (k : Group). k.name) ks g i → new ≡ grown (or_empty g None) start bytes closes
    → insert ks i new ≡ with_group (grown (group_or_empty g ks) start bytes closes) ks
put_free ks g zero new start bytes closes free is =
    ap (λ (n : Group). n ∷ ks) is ∙ sym (put_above (grown (or_empty g None) start bytes closes) ks free)
    ∙ sym (ap (λ (found : Option Group). with_group (grown (or_empty g found) start bytes closes) ks) (none_above ks g free))
put_free [] g (suc i) new start bytes closes free is = absurd free
put_free (j ∷ js) g (suc i) new start bytes closes free is =
    ap (λ (rest : List Group). j ∷ rest) (put_free js g i new start bytes closes free.1 is) ∙ sym (grown_behind g j js start bytes closes free.0)

pub free_within : (ks : List Group) (g : List ℕ) (i : ℕ) → IsFreeAt (λ (k : Group). k.name) ks g i → i ≤ length ks
free_within ks g zero free = omega arith
free_within [] g (suc i) free = absurd free
free_within (k ∷ ks) g (suc i) free = let rest = free_within ks g i free.1 in omega (arith, rest)

-- The bytes that a step keeps

pub kept_is : (ks new : List Group) (i : Input) (start : Option ℕ) (at : ℕ) (closes : Bool) (g bytes : List ℕ) → start ≡ Some at → piece_of i ≡ record { group = g; bytes = bytes } → new ≡ with_group (grown (group_or_empty g ks) at bytes closes) ks
    → new ≡ kept_at start ks (piece_of i) closes
kept_is ks new i start at closes g bytes some is put =
    put ∙ sym (ap (λ (p : Piece). kept_at (Some at) ks p closes) is) ∙ sym (ap (λ (s : Option ℕ). kept_at s ks (piece_of i) closes) some)

-- the group of kept bytes has a name
pub kept_named : (ls : List Shelf) (i : Input) (start : Option ℕ) (at : ℕ) (closes : Bool) → start ≡ Some at → piece_of i ≡ record { group = []; bytes = [] } → CanKeep ls (piece_of i) start closes → ⊥
kept_named ls i start at closes some none can =
    let can_put : CanPut ls (piece_of i) at closes = subst (λ (s : Option ℕ). CanKeep ls (piece_of i) s closes) some can in
    let named : IsGroupName [] = subst (λ (p : Piece). IsGroupName p.group) none can_put.named in
    unnamed named where
      unnamed : IsGroupName [] → ⊥
      unnamed is = absurd cc
