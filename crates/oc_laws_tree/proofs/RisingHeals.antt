-- Lists of ids in ascending order: the first id is the least, the last the greatest, and a part of a list is no longer than the
-- list.
use Rattle.std.proofs.Common.{◌≡◌, ℕ, zero, suc, ◌+◌, ◌<◌, ◌≤◌, Bool, true, false, not, if◌then◌else◌, Some, List, [], ◌∷◌, ◌++◌, ◌⊎◌, inl, inr, filter, length, refl, ap, sym, ⊎_elim, arith}
use Rattle.std.specs.List.{range_with_len}
use Rattle.std.proofs.lemmas.Bool.{cond_both}
use Rattle.oc_model.specs.WorldBounds.{IsOneOf}
use Rattle.oc_model.proofs.Members.{of_filter}
use Rattle.oc_model.specs.Numbers.{first_of, last_of}
use Rattle.oc_laws_tree.proofs.Spans.{of_range}

-- each id is less than all after it
abbrev pub IsRising : List ℕ → Type 0
IsRising [] = Unit {0}
IsRising (x ∷ xs) = ((q : ℕ) → IsOneOf q xs → x < q) × IsRising xs

pub range_rises : (b n : ℕ) → IsRising (range_with_len b n)
range_rises b zero = tt
range_rises b (suc n) = (λ q one. let low = of_range (b + 1) n q one in omega (arith, low.0), range_rises (b + 1) n)

pub filter_rises : (test : ℕ → Bool) (xs : List ℕ) → IsRising xs → IsRising (filter test xs)
filter_rises test [] rising = tt
filter_rises test (x ∷ xs) rising = cond_both (test x) (x ∷ filter test xs) (filter test xs) IsRising
    (λ _. (λ q one. rising.0 q (of_filter test xs q one).1, filter_rises test xs rising.1)) (λ _. filter_rises test xs rising.1)

-- the first id is one of the list, and the least
pub first_least : (xs : List ℕ) (m : ℕ) → IsRising xs → first_of xs ≡ Some m → IsOneOf m xs × ((q : ℕ) → IsOneOf q xs → m ≤ q)
first_least [] m rising e = absurd cc
first_least (x ∷ xs) m rising e =
    let same : x ≡ m = cc in
    (inl (sym same), λ q one. ⊎_elim (λ is. omega (arith, is, same)) (λ later. let less : x < q = rising.0 q later in omega (arith, less, same)) one)

-- the last id is one of the list if there are any
last_one : (d : ℕ) (xs : List ℕ) → (last_of d xs ≡ d) ⊎ IsOneOf (last_of d xs) xs
last_one d [] = inl refl
last_one d (x ∷ xs) = ⊎_elim (λ same. inr (inl same)) (λ later. inr (inr later)) (last_one x xs)

pub last_in : (d : ℕ) (xs : List ℕ) (q : ℕ) → IsOneOf q xs → IsOneOf (last_of d xs) xs
last_in d [] q one = absurd one
last_in d (x ∷ xs) q one = ⊎_elim (λ same. inl same) (λ later. inr later) (last_one x xs)

-- the last id is the greatest
pub last_greatest : (d : ℕ) (xs : List ℕ) (q : ℕ) → IsRising xs → IsOneOf q xs → q ≤ last_of d xs
last_greatest d [] q rising one = absurd one
last_greatest d (x ∷ xs) q rising (inl same) = ⊎_elim (λ is. omega (arith, same, is)) (λ later. let less : x < last_of x xs = rising.0 (last_of x xs) later in omega (arith, same, less)) (last_one x xs)
last_greatest d (x ∷ xs) q rising (inr later) = last_greatest x xs q rising.1 later

-- Lengths

pub filter_short : (test : ℕ → Bool) (xs : List ℕ) → length (filter test xs) ≤ length xs
filter_short test [] = omega arith
filter_short test (x ∷ xs) = cond_both (test x) (x ∷ filter test xs) (filter test xs) (λ ys. length ys ≤ length (x ∷ xs)) (λ _. omega (arith, filter_short test xs)) (λ _. omega (arith, filter_short test xs))

-- fewer items pass a harder test
pub filter_fewer : (hard easy : ℕ → Bool) (xs : List ℕ) → ((x : ℕ) → hard x ≡ true → easy x ≡ true) → length (filter hard xs) ≤ length (filter easy xs)
filter_fewer hard easy [] implies = omega arith
filter_fewer hard easy (x ∷ xs) implies = by_tests (hard x) (easy x) (implies x) (filter_fewer hard easy xs implies) where
  by_tests : (a b : Bool) → (a ≡ true → b ≡ true) → length (filter hard xs) ≤ length (filter easy xs) → length (if a then x ∷ filter hard xs else filter hard xs) ≤ length (if b then x ∷ filter easy xs else filter easy xs)
  by_tests true true implied rest = omega (arith, rest)
  by_tests true false implied rest = let clash : false ≡ true = implied refl in absurd cc
  by_tests false true implied rest = omega (arith, rest)
  by_tests false false implied rest = rest

-- an item of the first of two lists is an item of both in a row
pub one_left : (x : ℕ) (xs ys : List ℕ) → IsOneOf x xs → IsOneOf x (xs ++ ys)
one_left x [] ys one = absurd one
one_left x (z ∷ zs) ys (inl same) = inl same
one_left x (z ∷ zs) ys (inr later) = inr (one_left x zs ys later)

pub one_right : (x : ℕ) (xs ys : List ℕ) → IsOneOf x ys → IsOneOf x (xs ++ ys)
one_right x [] ys one = one
one_right x (z ∷ zs) ys one = inr (one_right x zs ys one)

pub one_of_both : (x : ℕ) (xs ys : List ℕ) → IsOneOf x (xs ++ ys) → IsOneOf x xs ⊎ IsOneOf x ys
one_of_both x [] ys one = inr one
one_of_both x (z ∷ zs) ys (inl same) = inl (inl same)
one_of_both x (z ∷ zs) ys (inr later) = ⊎_elim (λ first. inl (inr first)) (λ second. inr second) (one_of_both x zs ys later)

pub filter-append : (test : ℕ → Bool) (xs ys : List ℕ) → filter test (xs ++ ys) ≡ filter test xs ++ filter test ys
filter-append test [] ys = refl
filter-append test (x ∷ xs) ys = by_test (test x) (filter-append test xs ys) where
  by_test : (b : Bool) → filter test (xs ++ ys) ≡ filter test xs ++ filter test ys → (if b then x ∷ filter test (xs ++ ys) else filter test (xs ++ ys)) ≡ (if b then x ∷ filter test xs else filter test xs) ++ filter test ys
  by_test true rest = ap (λ zs. x ∷ zs) rest
  by_test false rest = rest

-- the items of one part that pass two tests, and those of the other part that pass one, are at most as many as the items of the
-- whole that pass that one
pub parts_fewer : (test past part : ℕ → Bool) (xs : List ℕ) → length (filter test (filter past (filter part xs))) + length (filter test (filter (λ x. not (part x)) xs)) ≤ length (filter test xs)
parts_fewer test past part [] = omega arith
parts_fewer test past part (x ∷ xs) = by_part (part x) (parts_fewer test past part xs) where
  ins : List ℕ
  ins = filter part xs

  outs : List ℕ
  outs = filter (λ y. not (part y)) xs

  by_past : (a b : Bool) → length (filter test (filter past ins)) + length (filter test outs) ≤ length (filter test xs)
      → length (filter test (if a then x ∷ filter past ins else filter past ins)) + length (filter test outs) ≤ length (if test x then x ∷ filter test xs else filter test xs)
  by_past true b rest = in_test (test x) where
    in_test : (c : Bool) → length (if c then x ∷ filter test (filter past ins) else filter test (filter past ins)) + length (filter test outs) ≤ length (if c then x ∷ filter test xs else filter test xs)
    in_test true = omega (arith, rest)
    in_test false = rest
  by_past false b rest = in_test (test x) where
    in_test : (c : Bool) → length (filter test (filter past ins)) + length (filter test outs) ≤ length (if c then x ∷ filter test xs else filter test xs)
    in_test true = omega (arith, rest)
    in_test false = rest

  by_part : (a : Bool) → length (filter test (filter past ins)) + length (filter test outs) ≤ length (filter test xs)
      → length (filter test (filter past (if a then x ∷ ins else ins))) + length (filter test (if not a then x ∷ outs else outs)) ≤ length (if test x then x ∷ filter test xs else filter test xs)
  by_part true rest = by_past (past x) true rest
  by_part false rest = out_test (test x) where
    out_test : (c : Bool) → length (filter test (filter past ins)) + length (if c then x ∷ filter test outs else filter test outs) ≤ length (if c then x ∷ filter test xs else filter test xs)
    out_test true = omega (arith, rest)
    out_test false = rest
