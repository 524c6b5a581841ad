-- Bytes that are filled up with zeros to `most` of them.
use Rattle.std.specs.Prelude.{◌≡◌, ℕ, ◌-◌, ◌≤◌, List, ◌++◌, length, take, replicate}
use Rattle.std.proofs.Common.{arith, sym, ap, ◌∙◌, length-take}

-- the first n of a list that has at least n
pub length_of_front : (most n : ℕ) (xs : List ℕ) → n ≤ most → length xs ≡ most → length (take n xs) ≡ n
length_of_front most n xs few long = grind (arith, length-take)

-- a text that is filled up again is the same text
pub padded_again : (most n : ℕ) (xs : List ℕ) → n ≤ most → length xs ≡ most → xs ≡ take n xs ++ replicate (most - n) 0 → take n xs ++ replicate (most - length (take n xs)) 0 ≡ xs
padded_again most n xs few long zeros = ap (λ (k : ℕ). take n xs ++ replicate (most - k) 0) (length_of_front most n xs few long) ∙ sym zeros
