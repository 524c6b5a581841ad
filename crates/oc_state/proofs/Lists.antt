-- Lists of which the first are left out, or taken.
use Rattle.std.proofs.Common.{◌≡◌, ℕ, zero, suc, ◌+◌, ◌-◌, ◌<◌, ◌≤◌, min, get_or, List, [], ◌∷◌, length, take, drop, ◌++◌, refl, sym, ◌∙◌, ap, arith, length-drop}
use Rattle.std.proofs.Math.Seq.{drop-nil}

-- the first a items are left out, and then b more
drop_sum : {X : Type 0} (a b : ℕ) (xs : List X) → drop (a + b) xs ≡ drop b (drop a xs)
drop_sum zero b xs = let e : 0 + b ≡ b = omega arith in ap (λ (n : ℕ). drop n xs) e
drop_sum (suc a) b [] = drop-nil (suc a + b) ∙ sym (drop-nil b)
drop_sum (suc a) b (x ∷ xs) = let e : suc a + b ≡ suc (a + b) = omega arith in ap (λ (n : ℕ). drop n (x ∷ xs)) e ∙ drop_sum a b xs

-- no more can be left out than there are
drop_few : {X : Type 0} (n : ℕ) (xs : List X) → drop (min n (length xs)) xs ≡ drop n xs
drop_few zero xs = let e : min 0 (length xs) ≡ 0 = omega arith in ap (λ (n : ℕ). drop n xs) e
drop_few (suc n) [] = drop-nil (min (suc n) 0)
drop_few (suc n) (x ∷ xs) = let e : min (suc n) (suc (length xs)) ≡ suc (min n (length xs)) = omega arith in ap (λ (n : ℕ). drop n (x ∷ xs)) e ∙ drop_few n xs

-- the first a items are left out, and then n more, or all that are left
pub drop_more : {X : Type 0} (a n : ℕ) (xs : List X) → drop (a + min n (length xs - a)) xs ≡ drop n (drop a xs)
drop_more a n xs = let left : length (drop a xs) ≡ length xs - a = length-drop a xs in drop_sum a (min n (length xs - a)) xs ∙ ap (λ (k : ℕ). drop (min n k) (drop a xs)) (sym left) ∙ drop_few n (drop a xs)

-- one more item is left out
pub drop_one_more : {X : Type 0} (a : ℕ) (xs : List X) → drop (a + 1) xs ≡ drop 1 (drop a xs)
drop_one_more a xs = drop_sum a 1 xs

-- no more can be taken than there are
pub take_few : {X : Type 0} → (n : ℕ) (xs : List X) → take (min (length xs) n) xs ≡ take n xs
take_few zero xs = let e : min (length xs) 0 ≡ 0 = omega arith in ap (λ (n : ℕ). take n xs) e
take_few {X = X} (suc n) [] = let e : min 0 (suc n) ≡ 0 = omega arith in ap (λ (n : ℕ). take {A = X} n []) e
take_few {X = X} (suc n) (x ∷ xs) = let e : min (suc (length xs)) (suc n) ≡ suc (min (length xs) n) = omega arith in ap (λ (n : ℕ). take n (x ∷ xs)) e ∙ ap (λ (ys : List X). x ∷ ys) (take_few n xs)

-- the rest from an index on is the item there and the rest after it
pub drop_at : {X : Type 0} → (xs : List X) (i : ℕ) (x : X) → i < length xs → x ≡ get_or xs i x → drop i xs ≡ x ∷ drop (i + 1) xs
drop_at [] i x within e = absurd (omega arith)
drop_at {X = X} (y ∷ ys) zero x within e = ap (λ (z : X). z ∷ ys) (sym e)
drop_at (y ∷ ys) (suc i) x within e = let more : suc i + 1 ≡ suc (i + 1) = omega arith in rw more (drop_at ys i x (omega arith) e)

-- the first n of the first n and more are the first n of all
pub take_again : {X : Type 0} → (n : ℕ) (xs ys : List X) → take n (take n xs ++ ys) ≡ take n (xs ++ ys)
take_again zero xs ys = refl
take_again (suc n) [] ys = refl
take_again {X = X} (suc n) (x ∷ xs) ys = ap (λ (zs : List X). x ∷ zs) (take_again n xs ys)

-- all are taken, where there are no more
pub take_all : {X : Type 0} → (n : ℕ) (xs : List X) → length xs ≤ n → take n xs ≡ xs
take_all zero [] few = refl
take_all zero (x ∷ xs) few = absurd (omega arith)
take_all (suc n) [] few = refl
take_all {X = X} (suc n) (x ∷ xs) few = ap (λ (zs : List X). x ∷ zs) (take_all n xs (omega arith))
