-- Chunked texts without their end.
use Rattle.std.proofs.Common.{◌≡◌, ◌-◌, ◌+◌, ℕ, true, false, List, ◌++◌, length, take, sym, ap, ◌∙◌, arith, length-append}
use Rattle.std.proofs.Math.Seq.{take-append_seam}
use Rattle.std.proofs.lemmas.List.{append-nil}
use Rattle.oc_chunked.specs.Texts.{chunked_text, chunks_written, end_written}
use Rattle.oc_routes.specs.Contents.{ending, pieces}

-- a chunked text without its end
pub without_end : (bytes text : List ℕ) (n : ℕ) → text ≡ chunked_text bytes → n ≡ length text - 5 → take n text ≡ pieces true bytes ++ ending true false
without_end bytes text n is last =
    let chunks = chunks_written (length bytes) bytes in
    let long : length text ≡ length chunks + 5 = ap (λ (t : List ℕ). length t) is ∙ length-append chunks end_written in
    let front : n ≡ length chunks = omega (arith, long, last) in
    ap (λ (t : List ℕ). take n t) is ∙ ap (λ (k : ℕ). take k (chunks ++ end_written)) front ∙ take-append_seam chunks end_written ∙ sym (append-nil chunks)
