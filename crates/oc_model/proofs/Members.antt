-- Members of lists of ids: the tests over a list, and that a list without repeats is no longer than one that has its members.
use Rattle.std.proofs.Common.{◌≡◌, ℕ, ◌+◌, ◌≤◌, Bool, true, false, ◌==◌, Some, List, [], ◌∷◌, ◌⊎◌, inl, inr, length, filter, find, if◌then◌else◌, refl, ap, sym, subst, ◌∙◌, arith, eqb-true, eq-eqb}
use Rattle.std.specs.List.{list_all, AllByRecursion}
use Rattle.std.proofs.lemmas.Bool.{and_parts}
use Rattle.oc_model.specs.WorldBounds.{IsOneOf, IsDistinct}
use Rattle.oc_model.proofs.Lists.{all_both}

-- each of xs is one of ys
abbrev pub AreAmong : List ℕ → List ℕ → Type 0
AreAmong xs ys = AllByRecursion (λ x. IsOneOf x ys) xs

-- the list without the first x
without : ℕ → List ℕ → List ℕ
without x [] = []
without x (y ∷ ys) = if x == y then ys else y ∷ without x ys

-- the list without x is shorter by one
without_length : (x : ℕ) (ys : List ℕ) → IsOneOf x ys → length (without x ys) + 1 ≡ length ys
unfolding without
without_length x [] one = absurd one
without_length x (y ∷ ys) one = by_test (without_length x ys) (x == y) refl one where
  by_test : (IsOneOf x ys → length (without x ys) + 1 ≡ length ys) → (b : Bool) → (x == y) ≡ b → (x ≡ y) ⊎ IsOneOf x ys → length (without x (y ∷ ys)) + 1 ≡ length (y ∷ ys)
  by_test rest true e one = rw e (omega arith)
  by_test rest false e (inl same) = absurd (cc (eq-eqb x y same, e))
  by_test rest false e (inr later) = rw e (omega (arith, rest later))

-- another member stays
without_other : (x z : ℕ) (ys : List ℕ) → (z ≡ x → ⊥) → IsOneOf z ys → IsOneOf z (without x ys)
unfolding without
without_other x z [] other one = absurd one
without_other x z (y ∷ ys) other one = by_test (without_other x z ys other) (x == y) refl one where
  by_test : (IsOneOf z ys → IsOneOf z (without x ys)) → (b : Bool) → (x == y) ≡ b → (z ≡ y) ⊎ IsOneOf z ys → IsOneOf z (without x (y ∷ ys))
  by_test rest true e (inl same) = absurd (other (same ∙ sym (eqb-true x y e)))
  by_test rest true e (inr later) = rw e later
  by_test rest false e (inl same) = rw e (inl same)
  by_test rest false e (inr later) = rw e (inr (rest later))

-- each member of the list is another id than x, if x is not in the list
apart : (x : ℕ) (xs : List ℕ) → (IsOneOf x xs → ⊥) → AllByRecursion (λ z. z ≡ x → ⊥) xs
apart x [] out = tt
apart x (y ∷ ys) out = (λ e. out (inl (sym e)), apart x ys (λ one. out (inr one)))

-- a list without repeats is no longer than one that has its members
pub no_longer : (xs ys : List ℕ) → IsDistinct xs → AreAmong xs ys → length xs ≤ length ys
no_longer [] ys distinct among = omega arith
no_longer (x ∷ xs) ys distinct among =
    let fewer : AreAmong xs (without x ys) = all_both (λ z. z ≡ x → ⊥) (λ z. IsOneOf z ys) (λ z. IsOneOf z (without x ys)) (λ z other one. without_other x z ys other one) xs (apart x xs distinct.0) among.1 in
    omega (arith, no_longer xs (without x ys) distinct.1 fewer, without_length x ys among.0)

-- a property of all holds of each member
pub each_of : (P : ℕ → Type 0) (xs : List ℕ) (x : ℕ) → AllByRecursion P xs → IsOneOf x xs → P x
each_of P [] x all one = absurd one
each_of P (y ∷ ys) x all (inl same) = subst P (sym same) all.0
each_of P (y ∷ ys) x all (inr later) = each_of P ys x all.1 later

-- a test of all holds of each member
pub all_test : (test : ℕ → Bool) (xs : List ℕ) → list_all test xs ≡ true → (x : ℕ) → IsOneOf x xs → test x ≡ true
all_test test [] e x one = absurd one
all_test test (y ∷ ys) e x (inl same) = ap test same ∙ (and_parts (test y) (list_all test ys) e).0
all_test test (y ∷ ys) e x (inr later) = all_test test ys (and_parts (test y) (list_all test ys) e).1 x later

-- a test that passes for each member passes for the list
pub test_all : (test : ℕ → Bool) (xs : List ℕ) → ((x : ℕ) → IsOneOf x xs → test x ≡ true) → list_all test xs ≡ true
test_all test [] each = refl
test_all test (y ∷ ys) each = rw (each y (inl refl)) (test_all test ys (λ x one. each x (inr one)))

-- a member that passes a test is found, or one before it
pub found_by : (test : ℕ → Bool) (xs : List ℕ) (x : ℕ) → IsOneOf x xs → test x ≡ true → (y : ℕ) × (find test xs ≡ Some y) × (test y ≡ true)
found_by test [] x one passes = absurd one
found_by test (z ∷ zs) x one passes = by_test (found_by test zs x) (test z) refl one where
  by_test : (IsOneOf x zs → test x ≡ true → (y : ℕ) × (find test zs ≡ Some y) × (test y ≡ true)) → (b : Bool) → test z ≡ b → (x ≡ z) ⊎ IsOneOf x zs → (y : ℕ) × (find test (z ∷ zs) ≡ Some y) × (test y ≡ true)
  by_test rest true e one = (z, rw e, e)
  by_test rest false e (inl same) = absurd (cc (ap test same, e, passes))
  by_test rest false e (inr later) = let found = rest later passes in (found.0, rw e found.1, found.2)

-- the member found passes the test
pub found_passes : (test : ℕ → Bool) (xs : List ℕ) (y : ℕ) → find test xs ≡ Some y → test y ≡ true
found_passes test [] y e = absurd cc
found_passes test (z ∷ zs) y e = by_test (found_passes test zs y) (test z) refl where
  by_test : (find test zs ≡ Some y → test y ≡ true) → (b : Bool) → test z ≡ b → test y ≡ true
  by_test rest true f = let found : Some z ≡ Some y = rw f at e in let same : z ≡ y = cc in ap test (sym same) ∙ f
  by_test rest false f = rest (rw f at e)

-- a member of a filtered list passes the test, and is one of the list
pub of_filter : (test : ℕ → Bool) (xs : List ℕ) (x : ℕ) → IsOneOf x (filter test xs) → (test x ≡ true) × IsOneOf x xs
of_filter test [] x one = absurd one
of_filter test (y ∷ ys) x one = by_test (of_filter test ys x) (test y) refl where
  by_test : (IsOneOf x (filter test ys) → (test x ≡ true) × IsOneOf x ys) → (b : Bool) → test y ≡ b → (test x ≡ true) × IsOneOf x (y ∷ ys)
  by_test rest true e = by_place rest e (rw e at one) where
    by_place : (IsOneOf x (filter test ys) → (test x ≡ true) × IsOneOf x ys) → test y ≡ true → (x ≡ y) ⊎ IsOneOf x (filter test ys) → (test x ≡ true) × IsOneOf x (y ∷ ys)
    by_place rest e (inl same) = (ap test same ∙ e, inl same)
    by_place rest e (inr later) = let found = rest later in (found.0, inr found.1)
  by_test rest false e = let found = rest (rw e at one) in (found.0, inr found.1)

-- a member that passes the test is one of the filtered list
pub in_filter : (test : ℕ → Bool) (xs : List ℕ) (x : ℕ) → test x ≡ true → IsOneOf x xs → IsOneOf x (filter test xs)
in_filter test [] x passes one = absurd one
in_filter test (y ∷ ys) x passes one = by_test (in_filter test ys x passes) (test y) refl one where
  by_test : (IsOneOf x ys → IsOneOf x (filter test ys)) → (b : Bool) → test y ≡ b → (x ≡ y) ⊎ IsOneOf x ys → IsOneOf x (filter test (y ∷ ys))
  by_test rest true e (inl same) = rw e (inl same)
  by_test rest true e (inr later) = rw e (inr (rest later))
  by_test rest false e (inl same) = absurd (cc (ap test same, e, passes))
  by_test rest false e (inr later) = rw e (rest later)
