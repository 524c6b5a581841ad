-- The wanted bytes belong to the text.
use Rattle.std.proofs.Common.{◌≡◌, ◌≢◌, ℕ, ◌+◌, ◌-◌, ◌<◌, ◌≤◌, inl, inr, List, [], ◌∷◌, ◌++◌, length, take, drop, refl, sym, ap, ◌∙◌, subst, arith, length-append}
use Rattle.std.proofs.lemmas.Bool.{cases_lt}
use Rattle.std.proofs.lemmas.List.{append_assoc, append-nil, take_all, drop_all}
use Rattle.httparse.specs.Ascii.{crlf_bytes}
use Rattle.httparse.specs.Grammar.{print_chunk_line, chunk_size}
use Rattle.oc_chunked.specs.Stages.{DecoderState, in_size, in_chunk, in_trailer, ended, refused, wanted_at}
use Rattle.oc_chunked.specs.Taken.{IsTaken, Takes}
use Rattle.oc_chunked.proofs.OneWay.{taken_once}
use Rattle.oc_chunked.proofs.Steps.{Takes-behind}

-- bytes that are within a chunk are its content so far
within_chunk : (size : ℕ) (behind content bytes : List ℕ) → length (behind ++ bytes) ≤ size → length behind ≤ size → content ≡ take size behind → content ++ bytes ≡ take size (behind ++ bytes)
within_chunk size behind content bytes fits short is =
    ap (λ (z : List ℕ). z ++ bytes) (is ∙ take_all size behind short) ∙ sym (take_all size (behind ++ bytes) fits)

-- the bytes within a chunk are none of its CR LF
no_end : (size : ℕ) (bytes : List ℕ) → length bytes ≤ size → drop size bytes ≡ take (length bytes - size) crlf_bytes
no_end size bytes fits =
    let none : length bytes - size ≡ 0 = omega arith in
    drop_all size bytes fits ∙ sym (ap (λ (n : ℕ). take n crlf_bytes) none)

-- bytes of a chunk's content lead on in it
chunk_goes : (left : ℕ) (bytes : List ℕ) → length bytes + 2 ≤ left → Takes (in_chunk left) bytes bytes (in_chunk (left - length bytes))
chunk_goes left bytes few = Takes-behind (in_chunk left) (in_chunk (left - length bytes)) bytes bytes (λ behind more part.
    let fits : length (part.behind ++ bytes) ≤ chunk_size part.line = omega (arith, few, part.left_is, length-append part.behind bytes) in
    let short : length part.behind ≤ chunk_size part.line = omega (arith, few, part.left_is) in record {
      line = part.line;
      behind = part.behind ++ bytes;
      size = part.size;
      some = part.some;
      fits = part.fits;
      bytes_are = ap (λ (z : List ℕ). z ++ bytes) part.bytes_are ∙ append_assoc (print_chunk_line part.line) part.behind bytes;
      left_is = omega (arith, few, part.left_is, length-append part.behind bytes);
      more = omega (arith, few);
      content_is = within_chunk (chunk_size part.line) part.behind more bytes fits short part.content_is;
      end = no_end (chunk_size part.line) (part.behind ++ bytes) fits;
    })

-- bytes are missing before the end
some_missing : (s : DecoderState) (bytes given more content : List ℕ) → s ≢ ended → IsTaken bytes given s → IsTaken (bytes ++ more) content ended → 0 < length more
some_missing s bytes given [] content other first last = absurd (other (taken_once bytes [] given content s ended first last (inl refl)).stage)
some_missing s bytes given (b ∷ more) content other first last = omega arith

-- bytes that lead on to the end are at least as many as are wanted
pub wanted_missing : (s : DecoderState) (bytes given more content : List ℕ) → IsTaken bytes given s → IsTaken (bytes ++ more) content ended → wanted_at s ≤ length more
wanted_missing (in_size line) bytes given more content first last = some_missing (in_size line) bytes given more content (λ e. cc e) first last
wanted_missing (in_chunk left) bytes given more content first last = elim (cases_lt (length more + 2) left) [
  | inl less ↦
      let goes = (chunk_goes left more (omega (arith, less))).on bytes given first in
      let one = (taken_once (bytes ++ more) [] (given ++ more) content (in_chunk (left - length more)) ended goes (subst (λ (x : List ℕ). IsTaken x content ended) (sym (append-nil (bytes ++ more))) last) (inl refl)).stage in
      absurd (cc one)
  | inr few ↦
      let some = some_missing (in_chunk left) bytes given more content (λ e. cc e) first last in
      omega (arith, few, some)
]
wanted_missing (in_trailer front) bytes given more content first last = some_missing (in_trailer front) bytes given more content (λ e. cc e) first last
wanted_missing ended bytes given more content first last = omega arith
wanted_missing (refused fault) bytes given more content first last = some_missing (refused fault) bytes given more content (λ e. cc e) first last
