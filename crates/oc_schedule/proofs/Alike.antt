-- Two texts, compared byte for byte.
use Rattle.std.proofs.Common.{◌≡◌, ℕ, zero, suc, ◌+◌, ◌<◌, ◌≤◌, true, false, ◌&&◌, ◌==◌, List, [], ◌∷◌, length, drop, refl, sym, ap, ◌∙◌, arith, inl, inr}
use Rattle.std.proofs.Math.Numerals.{add-one}
use Rattle.std.proofs.Math.Seq.{drop-cons}
use Rattle.std.proofs.lemmas.Bool.{cases_Bool}
use Rattle.std.proofs.lemmas.Bool.Decides.{nat_tests}
use Rattle.std.proofs.lemmas.Slice.Eq.{bytes_eq-Decides}
use Rattle.std.specs.Prelude.{slice_index}
use Rattle.std.specs.Str.{bytes_eq}

-- texts of different lengths differ
pub of_other_length : (a b : List ℕ) → ¬ (length a ≡ length b) → bytes_eq a b ≡ false
of_other_length a b other = elim (cases_Bool (bytes_eq a b)) [
  | inl same ↦ absurd (other (ap length ((bytes_eq-Decides a b).0 same)))
  | inr apart ↦ apart
]

-- the rest of a text is its next byte and the bytes after it
next : (a : List ℕ) (i : ℕ) → i < length a → drop i a ≡ slice_index a i ∷ drop (i + 1) a
next a i inside = rw (add-one, drop-cons a i 0) refl

heads_same : (x y : ℕ) (xs ys : List ℕ) → x ≡ y → bytes_eq (x ∷ xs) (y ∷ ys) ≡ bytes_eq xs ys
heads_same x y xs ys e = let same : (x == y) ≡ true = grind (arith, nat_tests) in ap (λ b. b && bytes_eq xs ys) same

heads_apart : (x y : ℕ) (xs ys : List ℕ) → ¬ (x ≡ y) → bytes_eq (x ∷ xs) (y ∷ ys) ≡ false
heads_apart x y xs ys e = let apart : (x == y) ≡ false = grind (arith, nat_tests) in ap (λ b. b && bytes_eq xs ys) apart

from_heads : (a b : List ℕ) (i : ℕ) → i < length a → i < length b → bytes_eq (drop i a) (drop i b) ≡ bytes_eq (slice_index a i ∷ drop (i + 1) a) (slice_index b i ∷ drop (i + 1) b)
from_heads a b i ia ib = ap (λ (x : List ℕ). bytes_eq x (drop i b)) (next a i ia) ∙ ap (λ (y : List ℕ). bytes_eq (slice_index a i ∷ drop (i + 1) a) y) (next b i ib)

-- the rest decides after a byte that is the same in both
pub same_here : (a b : List ℕ) (i : ℕ) → i < length a → length a ≡ length b → slice_index a i ≡ slice_index b i → bytes_eq (drop (i + 1) a) (drop (i + 1) b) ≡ bytes_eq (drop i a) (drop i b)
same_here a b i inside long e = sym (from_heads a b i inside (omega (arith, inside, long)) ∙ heads_same (slice_index a i) (slice_index b i) (drop (i + 1) a) (drop (i + 1) b) e)

-- texts with different bytes at one place differ
pub apart_here : (a b : List ℕ) (i : ℕ) → i < length a → length a ≡ length b → ¬ (slice_index a i ≡ slice_index b i) → bytes_eq (drop i a) (drop i b) ≡ false
apart_here a b i inside long other = from_heads a b i inside (omega (arith, inside, long)) ∙ heads_apart (slice_index a i) (slice_index b i) (drop (i + 1) a) (drop (i + 1) b) other

-- texts are the same where nothing is left of them
pub same_to_end : (a b : List ℕ) (i : ℕ) → length a ≤ i → length a ≡ length b → bytes_eq (drop i a) (drop i b) ≡ true
same_to_end [] [] zero past long = refl
same_to_end [] [] (suc i) past long = refl
same_to_end [] (y ∷ b) i past long = absurd (omega (arith, long))
same_to_end (x ∷ a) [] i past long = absurd (omega (arith, long))
same_to_end (x ∷ a) (y ∷ b) zero past long = absurd (omega (arith, past))
same_to_end (x ∷ a) (y ∷ b) (suc i) past long = same_to_end a b i (omega (arith, past)) (omega (arith, long))

pub ruleset are_read = (same_here, apart_here, same_to_end)
