-- The test whether an id is among others.
use Rattle.std.proofs.Common.{◌≡◌, ℕ, Bool, true, false, ◌==◌, ◌||◌, List, [], ◌∷◌, ◌⊎◌, inl, inr, refl, ap, arith}
use Rattle.std.specs.List.{list_any}
use Rattle.std.proofs.lemmas.Bool.Decides.{nat_tests}
use Rattle.oc_model.specs.Numbers.{has, IsAmong}

-- the library's test of a list is the model's
pub any_is_has : (xs : List ℕ) (x : ℕ) → list_any (λ y. y == x) xs ≡ has xs x
any_is_has [] x = refl
any_is_has (y ∷ ys) x = ap (λ b. y == x || b) (any_is_has ys x)

-- the id is in the list, if the test finds it first or in the rest
among_more : (y : ℕ) (ys : List ℕ) (x : ℕ) (b : Bool) → (y == x) ≡ b → (has ys x ≡ true → IsAmong x ys) → (b || has ys x) ≡ true → (y ≡ x) ⊎ IsAmong x ys
among_more y ys x true e rest h = inl (grind (arith, nat_tests))
among_more y ys x false e rest h = inr (rest h)

-- an id that the test finds is in the list
pub has_among : (xs : List ℕ) (x : ℕ) → has xs x ≡ true → IsAmong x xs
has_among [] x h = absurd cc
has_among (y ∷ ys) x h = among_more y ys x (y == x) refl (has_among ys x) h

-- the test finds each id of the list
pub among_has : (xs : List ℕ) (x : ℕ) → IsAmong x xs → has xs x ≡ true
among_has [] x h = absurd h
among_has (y ∷ ys) x (inl h) = grind (arith, nat_tests)
among_has (y ∷ ys) x (inr h) = grind (arith, nat_tests, among_has ys x h)
