-- Lists of ids that are equal.
use Rattle.std.proofs.Common.{◌≡◌, ℕ, Bool, ◌&&◌, ◌==◌, List, [], ◌∷◌, refl, ap}
use Rattle.std.specs.Cmp.Lexicographic.{pointwise}
use Rattle.oc_model.specs.Checking.{same_ids}

-- the test of each place is that of the lists
pub same_ids_is : (xs ys : List ℕ) → same_ids xs ys ≡ pointwise ◌==◌ xs ys
same_ids_is [] [] = refl
same_ids_is [] (y ∷ ys) = refl
same_ids_is (x ∷ xs) [] = refl
same_ids_is (x ∷ xs) (y ∷ ys) = ap (λ (b : Bool). x == y && b) (same_ids_is xs ys)
