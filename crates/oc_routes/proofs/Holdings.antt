-- A node's holding of a group, by its shelf and by its bytes.
use Rattle.std.proofs.Common.{◌≡◌, ℕ, Bool, true, false, Some, List, [], ◌∷◌, length, cond, refl, sym, ap, subst, ◌∙◌, if◌then◌else◌}
use Rattle.std.specs.Prelude.{find}
use Rattle.std.specs.Str.{bytes_eq}
use Rattle.std.proofs.lemmas.Map.Text.{is_eq-slice_cmp}
use Rattle.oc_base.proofs.NameOrder.{names_equal, same_name-itself}
use Rattle.oc_base.specs.Groups.{bytes_of, group_of, or_empty, shelf, shelf_of}
use Rattle.oc_base.specs.Named.{same_name}
use Rattle.oc_base.specs.declared.group.Group.{Group}
use Rattle.oc_base.specs.declared.shelf.Shelf.{Shelf}
use Rattle.oc_routes.specs.Waits.{holding, holding_of}

-- names are the same from either side
either_side : (a b : List ℕ) → same_name a b ≡ same_name b a
either_side a b = by_tests (same_name a b) refl (same_name b a) refl
  where
    by_tests : (x : Bool) → same_name a b ≡ x → (y : Bool) → same_name b a ≡ y → x ≡ y
    by_tests true p true q = refl
    by_tests false p false q = refl
    by_tests true p false q =
        let same : same_name b a ≡ true = subst (λ (c : List ℕ). same_name c a ≡ true) (names_equal a b p) (same_name-itself a) in
        sym (sym q ∙ same)
    by_tests false p true q =
        let same : same_name a b ≡ true = subst (λ (c : List ℕ). same_name c b ≡ true) (names_equal b a q) (same_name-itself b) in
        sym p ∙ same

-- the count of bytes held is that of the bytes there
pub held_is : (g : List ℕ) (ks : List Group) → (holding g (shelf ks)).held ≡ length (bytes_of g ks)
held_is g [] = refl
held_is g (k ∷ ks) = by_test (held_is g ks) (same_name g k.name) refl
  where
    by_test : (holding g (shelf ks)).held ≡ length (bytes_of g ks) → (b : Bool) → same_name g k.name ≡ b → (holding g (shelf (k ∷ ks))).held ≡ length (or_empty g (if b then Some k else group_of g ks)).bytes
    by_test behind true is =
        let found : bytes_eq k.name g ≡ true = sym (is_eq-slice_cmp k.name g) ∙ either_side k.name g ∙ is in
        ap (λ (x : Bool). (holding_of (cond x (Some (shelf_of k)) (find (λ (line : Shelf). bytes_eq line.group g) (shelf ks)))).held) found
    by_test behind false is =
        let past : bytes_eq k.name g ≡ false = sym (is_eq-slice_cmp k.name g) ∙ either_side k.name g ∙ is in
        ap (λ (x : Bool). (holding_of (cond x (Some (shelf_of k)) (find (λ (line : Shelf). bytes_eq line.group g) (shelf ks)))).held) past ∙ behind
