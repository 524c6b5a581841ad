use Rattle.std.proofs.Common.{◌≡◌, ℕ, ◌-◌, ◌≤◌, List, ◌++◌, length, take, drop, replicate, sym, ap, ◌∙◌, arith, length-append}
use Rattle.std.proofs.lemmas.List.{drop-replicate, length-replicate}
use Rattle.std.proofs.Math.Seq.{take-append_seam}

-- a name of at most 200 bytes in front of zeros is padded
pub padded_is : (name bytes : List ℕ) → length name ≤ 200 → bytes ≡ name ++ drop (length name) (replicate 200 0) → (length name ≤ 200) × (length bytes ≡ 200) × (bytes ≡ take (length name) bytes ++ replicate (200 - length name) 0)
padded_is name bytes few is =
    let zeros : bytes ≡ name ++ replicate (200 - length name) 0 = is ∙ ap (λ (z : List ℕ). name ++ z) (drop-replicate (length name) 200 0) in (
      few,
      ap length zeros ∙ grind (arith, length-append, length-replicate),
      zeros ∙ ap (λ (f : List ℕ). f ++ replicate (200 - length name) 0) (sym (ap (take (length name)) zeros ∙ take-append_seam name (replicate (200 - length name) 0))),
    )
