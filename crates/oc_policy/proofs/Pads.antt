-- Bytes that are filled up with zeros to `most` of them.
use Rattle.std.proofs.Common.{◌≡◌, ℕ, ◌-◌, ◌≤◌, List, ◌++◌, length, take, drop, replicate, sym, ap, ◌∙◌, arith, length-append}
use Rattle.std.proofs.lemmas.List.{drop-replicate, length-replicate}
use Rattle.std.proofs.Math.Seq.{take-append_seam}

-- a text of no more bytes in front of zeros is padded
pub padded_is : (most : ℕ) (text bytes : List ℕ) → length text ≤ most → bytes ≡ text ++ drop (length text) (replicate most 0) → (length text ≤ most) × (length bytes ≡ most) × (bytes ≡ take (length text) bytes ++ replicate (most - length text) 0)
padded_is most text bytes few is =
    let zeros : bytes ≡ text ++ replicate (most - length text) 0 = is ∙ ap (λ (z : List ℕ). text ++ z) (drop-replicate (length text) most 0) in (
      few,
      ap length zeros ∙ grind (arith, length-append, length-replicate),
      zeros ∙ ap (λ (f : List ℕ). f ++ replicate (most - length text) 0) (sym (ap (take (length text)) zeros ∙ take-append_seam text (replicate (most - length text) 0))),
    )
