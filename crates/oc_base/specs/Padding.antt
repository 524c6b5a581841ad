use Rattle.std.specs.Prelude.{◌≡◌, ℕ, ◌-◌, ◌≤◌, List, ◌++◌, length, take, replicate}
use Rattle.oc_base.specs.declared.limits.TheConstants.{MAX_NAME_BYTES}
use Rattle.std.proofs.Common.{arith, sym, ap, ◌∙◌, length-take}

-- the first n of a list that has at least n
pub length_of_front : (n : ℕ) (xs : List ℕ) → n ≤ MAX_NAME_BYTES → length xs ≡ MAX_NAME_BYTES → length (take n xs) ≡ n
length_of_front n xs few long = grind (arith, length-take)

-- a name that is cut to its length and filled up again does not change
pub padded_again : (n : ℕ) (xs : List ℕ) → n ≤ MAX_NAME_BYTES → length xs ≡ MAX_NAME_BYTES → xs ≡ take n xs ++ replicate (MAX_NAME_BYTES - n) 0 → take n xs ++ replicate (MAX_NAME_BYTES - length (take n xs)) 0 ≡ xs
padded_again n xs few long zeros = ap (λ (k : ℕ). take n xs ++ replicate (MAX_NAME_BYTES - k) 0) (length_of_front n xs few long) ∙ sym zeros
