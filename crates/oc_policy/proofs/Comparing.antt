-- Facts of a comparison that collects all differences.
use Rattle.std.proofs.Common.{◌≡◌, ℕ, ◌+◌, ◌<◌, List, length, take, get_or, sym, ap, ◌∙◌, arith}
use Rattle.std.specs.Prelude.{◌↔◌, bit_or, bit_xor}
use Rattle.std.specs.Int.Bits.{xor_add_and, xor_self}
use Rattle.std.proofs.lemmas.List.{get_or-take, take-take, take_more_same}
use Rattle.std.proofs.lemmas.Nat.{and_le_l, and_le_r, le_or_l, le_or_r}

-- numbers without a difference are the same
same_of_xor : (a b : ℕ) → bit_xor a b ≡ 0 → a ≡ b
same_of_xor a b none =
    let sum = xor_add_and a b in
    let first = and_le_l a b in
    let second = and_le_r a b in
    omega (arith, none, sum, first, second)

-- no difference so far, and none at the next place
pub same_more : (d : ℕ) (xs ys : List ℕ) (i : ℕ) → i < length xs → i < length ys → ((d ≡ 0) ↔ (take i xs ≡ take i ys))
    → (bit_or d (bit_xor (get_or xs i 0) (get_or ys i 0)) ≡ 0) ↔ (take (i + 1) xs ≡ take (i + 1) ys)
same_more d xs ys i in_first in_second so_far = (
  λ none.
      let before = le_or_l d (bit_xor (get_or xs i 0) (get_or ys i 0)) in
      let here = le_or_r d (bit_xor (get_or xs i 0) (get_or ys i 0)) in
      take_more_same xs ys i 0 in_first in_second (so_far.0 (omega (arith, none, before)))
      (same_of_xor (get_or xs i 0) (get_or ys i 0) (omega (arith, none, here))),
  λ same.
      let front : take i xs ≡ take i ys =
      sym (take-take i (i + 1) xs (omega arith)) ∙ ap (take i) same ∙ take-take i (i + 1) ys (omega arith) in
      let here : get_or xs i 0 ≡ get_or ys i 0 =
      sym (get_or-take (i + 1) xs i 0 (omega arith)) ∙ ap (λ (zs : List ℕ). get_or zs i 0) same ∙ get_or-take (i + 1) ys i 0 (omega arith) in
      ap (λ (n : ℕ). bit_or n (bit_xor (get_or xs i 0) (get_or ys i 0))) (so_far.1 front)
      ∙ ap (λ (n : ℕ). bit_xor n (get_or ys i 0)) here ∙ xor_self (get_or ys i 0),
)
