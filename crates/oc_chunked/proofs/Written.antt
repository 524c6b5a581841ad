-- The written text is chunked.
use Rattle.std.proofs.Common.{◌≡◌, ℕ, min, zero, suc, ◌+◌, ◌/◌, ◌%◌, ◌^◌, ◌<◌, ◌≤◌, true, false, List, [], ◌∷◌, ◌++◌, length, take, drop, refl, sym, ap, ◌∙◌, subst, inl, inr, arith, length-append, length-drop, length-take, None}
use Rattle.std.proofs.lemmas.List.{append_assoc, append-nil, take-append-drop, take_all, drop_all}
use Rattle.std.proofs.lemmas.List.Elements.{All-nil, All-from_recursion}
use Rattle.std.proofs.lemmas.Bool.{eq-eqb, ne_eqb, cases_lt}
use Rattle.std.proofs.Math.Nat.{div-lt_iff_lt-mul, pow-suc}
use Rattle.std.proofs.lemmas.Bool.Decides.{nat_tests, eqb_tells}
use Rattle.std.proofs.lemmas.Fmt.{digits_is_IsNumeral}
use Rattle.std.specs.Fmt.{digits, digits_onto, digit_glyph}
use Rattle.std.specs.Char.{is_ascii_hexdigit}
use Rattle.std.specs.List.{AllByRecursion}
use Rattle.httparse.specs.Ascii.{crlf_bytes}
use Rattle.httparse.specs.Grammar.{ChunkLine, IsChunkLine, print_chunk_line, chunk_size, print_section, crlf, IsField, is_ows}
use Rattle.oc_chunked.specs.Chunked.{Chunk, print_chunk, print_chunks, content_of, IsChunked}
use Rattle.oc_chunked.specs.Stages.{DecoderState, ended, refused, fault_in}
use Rattle.oc_chunked.specs.declared.fault.ChunkFault.{ChunkFault}
use Rattle.oc_chunked.specs.Taken.{IsShortChunk, IsTaken}
use Rattle.oc_chunked.specs.Texts.{chunk_written, end_written, chunks_written, chunked_text}
use Rattle.oc_chunked.specs.declared.limits.TheConstants.{WRITTEN_BYTES, MAX_SIZE_LINE_BYTES}
use Rattle.oc_chunked.proofs.OneWay.{taken_once}
use Rattle.oc_chunked.proofs.Whole.{whole_chunked}

-- a digit of base 16 is a hexadecimal digit
glyph_hex : (d : ℕ) → d < 16 → is_ascii_hexdigit (digit_glyph false d) ≡ true
glyph_hex d below = grind (arith, nat_tests)

abbrev AreHex : List ℕ → Type 0
AreHex = AllByRecursion (λ c. is_ascii_hexdigit c ≡ true)

onto_hex : (k n : ℕ) (acc : List ℕ) → AreHex acc → AreHex (digits_onto k 16 false n acc)
onto_hex zero n acc all = all
onto_hex (suc k) n acc all =
    let first = glyph_hex (n % 16) (omega arith) in
    elim (eqb_tells (n / 16) 0) [
      | inl last ↦ rw (last.0) (first, all)
      | inr more ↦ rw (more.0) (onto_hex k (n / 16) (digit_glyph false (n % 16) ∷ acc) (first, all))
    ]

-- a number below a power of 16 has no more digits
onto_short : (k j n : ℕ) (acc : List ℕ) → n < 16 ^ suc j → length (digits_onto k 16 false n acc) ≤ length acc + suc j
onto_short zero j n acc below = omega arith
onto_short (suc k) zero n acc below =
    let none : n / 16 ≡ 0 = omega arith in
    rw (eq-eqb _ _ none) (omega arith)
onto_short (suc k) (suc j) n acc below =
    let less : n / 16 < 16 ^ suc j = (div-lt_iff_lt-mul {k = 16} {x = n} {y = 16 ^ suc j} (omega arith)).1 (subst (λ (m : ℕ). n < m) (pow-suc 16 (suc j)) below) in
    elim (eqb_tells (n / 16) 0) [
      | inl last ↦ rw (last.0) (omega arith)
      | inr more ↦ rw (more.0) (omega (arith, onto_short k j (n / 16) (digit_glyph false (n % 16) ∷ acc) less))
    ]

-- a size as it is written
abbrev size_line : ℕ → ChunkLine
size_line size = record { digits = digits 16 false size; pad = []; extension = None }

size_digits : (size : ℕ) → size ≤ WRITTEN_BYTES → AreHex (digits 16 false size) × (length (digits 16 false size) ≤ 4)
unfolding digits
size_digits size few = (onto_hex 64 size [] tt, onto_short 64 3 size [] (omega arith))

small : (size : ℕ) → size ≤ WRITTEN_BYTES → size < 16 ^ 64
small size few = omega arith

IsChunkLine-size : (size : ℕ) → size ≤ WRITTEN_BYTES → IsChunkLine (size_line size)
IsChunkLine-size size few =
    let hex = size_digits size few in
    let numeral = digits_is_IsNumeral 16 false (omega arith) (omega arith) size (small size few) in record {
      digits = (numeral.0.0, omega (arith, hex.1), All-from_recursion (λ c. is_ascii_hexdigit c ≡ true) (digits 16 false size) hex.0);
      pad = All-nil (λ b. is_ows b ≡ true);
      extension = tt;
    }

chunk_size-size : (size : ℕ) → size ≤ WRITTEN_BYTES → chunk_size (size_line size) ≡ size
chunk_size-size size few = (digits_is_IsNumeral 16 false (omega arith) (omega arith) size (small size few)).1

print-size : (size : ℕ) → print_chunk_line (size_line size) ≡ digits 16 false size ++ crlf_bytes
unfolding print_chunk_line
print-size size = ap (λ (z : List ℕ). z ++ crlf_bytes) (append-nil (digits 16 false size ++ []) ∙ append-nil (digits 16 false size))

-- bytes begin with a chunk
written_cons : (most b : ℕ) (bytes : List ℕ) → chunks_written (suc most) (b ∷ bytes) ≡ chunk_written (take WRITTEN_BYTES (b ∷ bytes)) ++ chunks_written most (drop WRITTEN_BYTES (b ∷ bytes))
unfolding chunks_written
written_cons most b bytes = rw (ne_eqb (length (b ∷ bytes)) 0 (λ e. omega arith))

-- chunks for a content
record IsWritten (text content : List ℕ) : Type 0 where
  chunks : List Chunk
  all : AllByRecursion IsShortChunk chunks
  text_is : text ≡ print_chunks chunks
  content_is : content ≡ content_of chunks

-- a size line as it is written is short
short-size : (size : ℕ) → size ≤ WRITTEN_BYTES → length (print_chunk_line (size_line size)) ≤ MAX_SIZE_LINE_BYTES
short-size size few = omega (arith, (size_digits size few).1, ap length (print-size size), length-append (digits 16 false size) crlf_bytes)

abbrev chunk_for : List ℕ → Chunk
chunk_for piece = record { line = size_line (length piece); bytes = piece }

IsShortChunk-for : (piece : List ℕ) → 0 < length piece → length piece ≤ WRITTEN_BYTES → IsShortChunk (chunk_for piece)
IsShortChunk-for piece some few =
    let size = chunk_size-size (length piece) few in record {
      chunk = record {
        line = IsChunkLine-size (length piece) few;
        some = omega (arith, size, some);
        fits = omega (arith, size, few);
        whole = sym size;
      };
      short = short-size (length piece) few;
    }

print-for : (piece : List ℕ) → print_chunk (chunk_for piece) ≡ chunk_written piece
print-for piece = ap (λ (z : List ℕ). z ++ (piece ++ crlf_bytes)) (print-size (length piece))

-- chunks for a prefix of a content and for the rest
written_more : (piece rest text : List ℕ) → 0 < length piece → length piece ≤ WRITTEN_BYTES → IsWritten text rest → IsWritten (chunk_written piece ++ text) (piece ++ rest)
written_more piece rest text some few behind = record {
  chunks = chunk_for piece ∷ behind.chunks;
  all = (IsShortChunk-for piece some few, behind.all);
  text_is = ap (λ (z : List ℕ). z ++ text) (sym (print-for piece)) ∙ ap (λ (z : List ℕ). print_chunk (chunk_for piece) ++ z) behind.text_is;
  content_is = ap (λ (z : List ℕ). piece ++ z) behind.content_is;
}

written : (most : ℕ) (bytes : List ℕ) → length bytes ≤ most → IsWritten (chunks_written most bytes) bytes
unfolding chunks_written
written zero [] few = record { chunks = []; all = tt; text_is = refl; content_is = refl }
written zero (b ∷ bytes) few = absurd (omega arith)
written (suc most) [] few = record { chunks = []; all = tt; text_is = refl; content_is = refl }
written (suc most) (b ∷ bytes) few =
    let all : List ℕ = b ∷ bytes in
    let piece = take WRITTEN_BYTES all in
    let rest = drop WRITTEN_BYTES all in
    let less : length rest ≤ most = omega (arith, length-drop WRITTEN_BYTES all) in
    let long : length piece ≡ min WRITTEN_BYTES (length all) = length-take WRITTEN_BYTES all in
    let one = written_more piece rest (chunks_written most rest) (omega (arith, long)) (omega (arith, long)) (written most rest less) in
    rw (written_cons most b bytes) (subst (IsWritten (chunk_written piece ++ chunks_written most rest)) (take-append-drop WRITTEN_BYTES all) one)

-- the written end ends a text
end-written : end_written ≡ print_chunk_line (size_line 0) ++ print_section [] crlf
unfolding digits
end-written = ap (λ (z : List ℕ). z ++ crlf_bytes) (sym (print-size 0))

-- a chunked text as it is written leads to the end
pub written_taken : (bytes : List ℕ) → IsTaken (chunked_text bytes) bytes ended
written_taken bytes =
    let done = written (length bytes) bytes (omega arith) in record {
      chunks = done.chunks;
      behind = end_written;
      more = [];
      all = done.all;
      leads = record {
        front = crlf_bytes;
        fields = ([], crlf);
        closed = record {
          line = size_line 0;
          size = record { is_line = IsChunkLine-size 0 (omega arith); short = short-size 0 (omega arith) };
          none = chunk_size-size 0 (omega arith);
          bytes_are = end-written;
          content_is = refl;
        };
        reads = (All-nil IsField, refl);
        few = omega arith;
        short = omega arith;
      };
      bytes_are = ap (λ (z : List ℕ). z ++ end_written) done.text_is;
      content_is = done.content_is ∙ sym (append-nil (content_of done.chunks));
    }

-- the written text is chunked
pub chunked_text-IsChunked : (bytes : List ℕ) → IsChunked (chunked_text bytes) bytes
chunked_text-IsChunked bytes = whole_chunked (chunked_text bytes) bytes (written_taken bytes)

-- a first chunk and equal ones after it
enough_more : (m n b : ℕ) (bytes : List ℕ) → chunks_written m (drop WRITTEN_BYTES (b ∷ bytes)) ≡ chunks_written n (drop WRITTEN_BYTES (b ∷ bytes)) → chunks_written (suc m) (b ∷ bytes) ≡ chunks_written (suc n) (b ∷ bytes)
enough_more m n b bytes same =
    written_cons m b bytes ∙ ap (λ (z : List ℕ). chunk_written (take WRITTEN_BYTES (b ∷ bytes)) ++ z) same ∙ sym (written_cons n b bytes)

-- a chunk for each byte is enough
chunks_enough : (m n : ℕ) (bytes : List ℕ) → length bytes ≤ m → length bytes ≤ n → chunks_written m bytes ≡ chunks_written n bytes
unfolding chunks_written
chunks_enough zero zero bytes few less = refl
chunks_enough zero (suc n) [] few less = refl
chunks_enough zero (suc n) (b ∷ bytes) few less = absurd (omega arith)
chunks_enough (suc m) zero [] few less = refl
chunks_enough (suc m) zero (b ∷ bytes) few less = absurd (omega arith)
chunks_enough (suc m) (suc n) [] few less = refl
chunks_enough (suc m) (suc n) (b ∷ bytes) few less =
    let long = length-drop WRITTEN_BYTES (b ∷ bytes) in
    enough_more m n b bytes (chunks_enough m n (drop WRITTEN_BYTES (b ∷ bytes)) (omega (arith, long)) (omega (arith, long)))

-- the first chunk, and those of the rest
chunks_first : (bytes : List ℕ) → 0 < length bytes → chunks_written (length bytes) bytes ≡ chunk_written (take WRITTEN_BYTES bytes) ++ chunks_written (length (drop WRITTEN_BYTES bytes)) (drop WRITTEN_BYTES bytes)
chunks_first [] some = absurd (omega arith)
chunks_first (b ∷ bytes) some =
    let all : List ℕ = b ∷ bytes in
    let rest = drop WRITTEN_BYTES all in
    let long = length-drop WRITTEN_BYTES all in
    written_cons (length bytes) b bytes ∙ ap (λ (z : List ℕ). chunk_written (take WRITTEN_BYTES all) ++ z) (chunks_enough (length bytes) (length rest) rest (omega (arith, long)) (omega arith))

-- the prefix that is cut off is that of a chunk
cut_front : (n : ℕ) (bytes : List ℕ) → n ≡ min (length bytes) WRITTEN_BYTES → (take n bytes ≡ take WRITTEN_BYTES bytes) × (drop n bytes ≡ drop WRITTEN_BYTES bytes)
cut_front n bytes cut = elim (cases_lt WRITTEN_BYTES (length bytes)) [
  | inl more ↦
      let same : n ≡ WRITTEN_BYTES = omega arith in
      (ap (λ (k : ℕ). take k bytes) same, ap (λ (k : ℕ). drop k bytes) same)
  | inr few ↦
      let all : length bytes ≤ n = omega arith in
      (take_all n bytes all ∙ sym (take_all WRITTEN_BYTES bytes few), drop_all n bytes all ∙ sym (drop_all WRITTEN_BYTES bytes few))
]

-- the text written and the text for the rest together are unchanged with one more chunk
pub chunk_more : (n : ℕ) (text rest all : List ℕ) → 0 < length rest → n ≡ min (length rest) WRITTEN_BYTES → text ++ chunks_written (length rest) rest ≡ all → (text ++ chunk_written (take n rest)) ++ chunks_written (length (drop n rest)) (drop n rest) ≡ all
chunk_more n text rest all some cut invariant =
    let front = cut_front n rest cut in
    rw (front.0, front.1) (append_assoc text (chunk_written (take WRITTEN_BYTES rest)) (chunks_written (length (drop WRITTEN_BYTES rest)) (drop WRITTEN_BYTES rest))
    ∙ ap (λ (z : List ℕ). text ++ z) (sym (chunks_first rest some))
    ∙ invariant)

-- the text written is the whole text where no bytes are left
pub chunks_done : (text rest bytes : List ℕ) → length rest ≡ 0 → text ++ chunks_written (length rest) rest ≡ chunks_written (length bytes) bytes → text ++ end_written ≡ chunked_text bytes
unfolding chunks_written
chunks_done text [] bytes none invariant = ap (λ (z : List ℕ). z ++ end_written) (sym (append-nil text) ∙ invariant)
chunks_done text (b ∷ rest) bytes none invariant = absurd (omega arith)

-- a prefix of the written text that leads to a refusal would be all of that text
refused_is_end : (bytes front rest content : List ℕ) (fault : ChunkFault) → chunked_text bytes ≡ front ++ rest → IsTaken front content (refused fault) → ⊥
refused_is_end bytes front rest content fault text taken =
    let all = subst (λ (x : List ℕ). IsTaken x bytes ended) text (written_taken bytes) in
    let agrees = taken_once front rest content bytes (refused fault) ended taken all (inr refl) in
    let e = agrees.stage in cc e

-- no prefix of the written text is refused
pub written_fine : (bytes front rest content : List ℕ) (s : DecoderState) → chunked_text bytes ≡ front ++ rest → IsTaken front content s → fault_in s ≡ None
written_fine bytes front rest content (refused fault) text taken = absurd (refused_is_end bytes front rest content fault text taken)
written_fine bytes front rest content s text taken = refl
