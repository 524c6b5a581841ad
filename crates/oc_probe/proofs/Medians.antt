-- Counts of a list that is split around one of its numbers.
use Rattle.std.proofs.Common.{◌≡◌, ℕ, ◌+◌, ◌-◌, ◌/◌, ◌<◌, ◌≤◌, suc, Bool, true, false, cond, List, [], ◌∷◌, ◌++◌, length, get_or, refl, ap, subst, inl, inr, arith, nat_lt, nat_le}
use Rattle.std.specs.List.{count_by}
use Rattle.std.specs.List.Sorted.{IsPermutation, IsSplitAround}
use Rattle.std.specs.Ordering.{nat_cmp, is_lt}
use Rattle.std.proofs.lemmas.Bool.{cases_lt, lt-ltb, le-ltb, le-leb, leb-true}
use Rattle.std.proofs.lemmas.Bool.Decides.{nat_tests}
use Rattle.std.proofs.lemmas.List.Sorted.{sum_by-IsPermutation}
use Rattle.std.proofs.lemmas.List.Sums.{sum_by-append, sum_by-cons, count_by-le-length}
use Rattle.oc_probe.specs.Rates.{IsAtPlace, IsMedian}

-- one more
count-cons : (p : ℕ → Bool) (x : ℕ) (xs : List ℕ) → count_by p (x ∷ xs) ≡ cond {A = ℕ} (p x) 1 0 + count_by p xs
count-cons p x xs = sum_by-cons (λ y. cond (p y) 1 0) x xs

-- none is counted where none passes
count-none : (p : ℕ → Bool) (xs : List ℕ) → ((k d : ℕ) → k < length xs → p (get_or xs k d) ≡ false) → count_by p xs ≡ 0
count-none p [] none = refl
count-none p (x ∷ xs) none =
    let here : p x ≡ false = none 0 0 (omega arith) in
    let rest : count_by p xs ≡ 0 = count-none p xs (λ k d h. none (suc k) d (omega (arith, h))) in
    let one : cond {A = ℕ} (p x) 1 0 ≡ 0 = ap (λ (b : Bool). cond {A = ℕ} b 1 0) here in
    omega (arith, count-cons p x xs, rest, one)

-- all are counted where all pass
count-all : (p : ℕ → Bool) (xs : List ℕ) → ((k d : ℕ) → k < length xs → p (get_or xs k d) ≡ true) → count_by p xs ≡ length xs
count-all p [] all = refl
count-all p (x ∷ xs) all =
    let here : p x ≡ true = all 0 0 (omega arith) in
    let rest : count_by p xs ≡ length xs = count-all p xs (λ k d h. all (suc k) d (omega (arith, h))) in
    let one : cond {A = ℕ} (p x) 1 0 ≡ 1 = ap (λ (b : Bool). cond {A = ℕ} b 1 0) here in
    omega (arith, count-cons p x xs, rest, one)

-- as many are counted where more pass
count-more : (p q : ℕ → Bool) (xs : List ℕ) → ((x : ℕ) → p x ≡ true → q x ≡ true) → count_by p xs ≤ count_by q xs
count-more p q [] more = omega arith
count-more p q (x ∷ xs) more =
    let one : cond {A = ℕ} (p x) 1 0 ≤ cond {A = ℕ} (q x) 1 0 = at_most (p x) (q x) (more x) in
    omega (arith, count-cons p x xs, count-cons q x xs, count-more p q xs more, one)
  where
    at_most : (a b : Bool) → (a ≡ true → b ≡ true) → cond {A = ℕ} a 1 0 ≤ cond {A = ℕ} b 1 0
    at_most true true h = omega arith
    at_most true false h = let clash : false ≡ true = h refl in absurd (cc clash)
    at_most false true h = omega arith
    at_most false false h = omega arith

not_less : (x y : ℕ) → is_lt (nat_cmp x y) ≡ false → y ≤ x
not_less x y h = grind (arith, nat_tests, h)

-- a number is at the place after those that are split off before it
pub split_at : (xs front back : List ℕ) (m k : ℕ) → IsPermutation xs (front ++ m ∷ back) → length front ≡ k → IsSplitAround nat_cmp front m back → IsAtPlace (k + 1) xs m
split_at xs front back m k same long (before, behind) =
    let less : count_by (λ x. nat_lt x m) (front ++ m ∷ back) ≡ count_by (λ x. nat_lt x m) front + count_by (λ x. nat_lt x m) (m ∷ back) = sum_by-append (λ x. cond (nat_lt x m) 1 0) front (m ∷ back) in
    let most : count_by (λ x. nat_le x m) (front ++ m ∷ back) ≡ count_by (λ x. nat_le x m) front + count_by (λ x. nat_le x m) (m ∷ back) = sum_by-append (λ x. cond (nat_le x m) 1 0) front (m ∷ back) in
    let less_same : count_by (λ x. nat_lt x m) (front ++ m ∷ back) ≡ count_by (λ x. nat_lt x m) xs = sum_by-IsPermutation (λ x. cond (nat_lt x m) 1 0) xs (front ++ m ∷ back) same in
    let most_same : count_by (λ x. nat_le x m) (front ++ m ∷ back) ≡ count_by (λ x. nat_le x m) xs = sum_by-IsPermutation (λ x. cond (nat_le x m) 1 0) xs (front ++ m ∷ back) same in
    let itself : nat_lt m m ≡ false = le-ltb m m (omega arith) in
    let counted : nat_le m m ≡ true = le-leb m m (omega arith) in
    let none : count_by (λ x. nat_lt x m) back ≡ 0 = count-none (λ x. nat_lt x m) back (λ j d h. le-ltb (get_or back j d) m (not_less (get_or back j d) m (behind j d h))) in
    let all : count_by (λ x. nat_le x m) front ≡ length front = count-all (λ x. nat_le x m) front (λ j d h. le-leb (get_or front j d) m (not_less m (get_or front j d) (before j d h))) in
    let few : count_by (λ x. nat_lt x m) front ≤ length front = count_by-le-length (λ x. nat_lt x m) front in
    let last_less : count_by (λ x. nat_lt x m) (m ∷ back) ≡ cond {A = ℕ} (nat_lt m m) 1 0 + count_by (λ x. nat_lt x m) back = count-cons (λ x. nat_lt x m) m back in
    let last_most : count_by (λ x. nat_le x m) (m ∷ back) ≡ cond {A = ℕ} (nat_le m m) 1 0 + count_by (λ x. nat_le x m) back = count-cons (λ x. nat_le x m) m back in
    let zero_more : cond {A = ℕ} (nat_lt m m) 1 0 ≡ 0 = ap (λ (b : Bool). cond {A = ℕ} b 1 0) itself in
    let one_more : cond {A = ℕ} (nat_le m m) 1 0 ≡ 1 = ap (λ (b : Bool). cond {A = ℕ} b 1 0) counted in
    record {
      below = omega arith;
      up_to = omega arith;
    }

-- the one in the middle of the kept rates
pub median_of : (now xs front back : List ℕ) (m k count : ℕ) → IsPermutation xs (front ++ m ∷ back) → length front ≡ k → IsSplitAround nat_cmp front m back → xs ≡ now → length now ≡ count → 0 < count → k ≡ (count - 1) / 2 → IsMedian now m
median_of now xs front back m k count same long split is many some place =
    let middle : k + 1 ≡ (length now + 1) / 2 = omega (arith, many, some, place) in
    subst (λ (n : ℕ). IsAtPlace n now m) middle (subst (λ (ys : List ℕ). IsAtPlace (k + 1) ys m) is (split_at xs front back m k same long split))

-- of two numbers at one place none is below the other
pub no_lower : (place : ℕ) (xs : List ℕ) (m n : ℕ) → IsAtPlace place xs m → IsAtPlace place xs n → n ≤ m
no_lower place xs m n p q = elim (cases_lt m n) [ inl lower ↦ absurd (lower_is_false lower) | inr upper ↦ upper ]
  where
    lower_is_false : m < n → ⊥
    lower_is_false h =
        let more = count-more (λ x. nat_le x m) (λ x. nat_lt x n) xs (λ x is. let le : x ≤ m = leb-true x m is in lt-ltb x n (omega (arith, le, h))) in
        omega (arith, more, p.up_to, q.below)

pub one_at_place : (place : ℕ) (xs : List ℕ) (m n : ℕ) → IsAtPlace place xs m → IsAtPlace place xs n → m ≡ n
one_at_place place xs m n p q = omega (arith, no_lower place xs m n p q, no_lower place xs n m q p)
