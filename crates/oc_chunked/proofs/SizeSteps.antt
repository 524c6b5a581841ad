-- A byte more of a size line.
use Rattle.std.proofs.Common.{◌≡◌, ℕ, ◌+◌, ◌<◌, ◌≤◌, inl, inr, List, [], ◌∷◌, ◌++◌, length, ◌-◌, take, drop, sym, ap, ◌∙◌, subst, arith, length-append}
use Rattle.std.proofs.lemmas.List.{append-nil}
use Rattle.std.proofs.lemmas.Bool.Decides.{eqb_tells, leb_tells}
use Rattle.std.proofs.Math.Seq.{take-nil, drop-nil}
use Rattle.std.proofs.Math.Nat.{zero-sub}
use Rattle.httparse.specs.Ascii.{line_feed, crlf_bytes}
use Rattle.httparse.specs.Grammar.{ChunkLine, print_chunk_line, chunk_size, ReadsChunkLine, NeverHasChunkLine}
use Rattle.oc_http.specs.Unfinished.{IsUnfinished}
use Rattle.oc_http.proofs.Heads.{IsUnfinished-none}
use Rattle.oc_chunked.specs.declared.fault.ChunkFault.TheVariants.{Bad, Long}
use Rattle.oc_chunked.specs.declared.limits.TheConstants.{MAX_CHUNK_SIZE, MAX_SIZE_LINE_BYTES}
use Rattle.oc_chunked.specs.Stages.{in_size, in_chunk, in_trailer, refused, stage_at}
use Rattle.oc_chunked.specs.Taken.{Takes, IsPartOfSize, IsSizeLine}
use Rattle.oc_chunked.specs.Views.{behind_size_line}
use Rattle.oc_chunked.proofs.Forms.{size_form, fields_form, whole_at_end}
use Rattle.oc_chunked.proofs.Steps.{Takes-behind}

-- a size line that is still unfinished
pub size_more : (line : List ℕ) (b : ℕ) → (IsUnfinished ReadsChunkLine line → IsUnfinished ReadsChunkLine (line ++ b ∷ [])) → length line + 1 < MAX_SIZE_LINE_BYTES → Takes (in_size line) (b ∷ []) [] (in_size (line ++ b ∷ []))
size_more line b goes short = Takes-behind (in_size line) (in_size (line ++ b ∷ [])) (b ∷ []) [] (λ behind more part. record {
  bytes_are = ap (λ (z : List ℕ). z ++ b ∷ []) part.bytes_are;
  content_is = append-nil more ∙ part.content_is;
  unfinished = goes part.unfinished;
  short = omega (arith, length-append line (b ∷ []));
})

-- a size line that is too long
pub size_long : (line : List ℕ) (b : ℕ) → (IsUnfinished ReadsChunkLine line → IsUnfinished ReadsChunkLine (line ++ b ∷ [])) → MAX_SIZE_LINE_BYTES ≤ length line + 1 → Takes (in_size line) (b ∷ []) [] (refused Long)
size_long line b goes long = Takes-behind (in_size line) (refused Long) (b ∷ []) [] (λ behind more part.
    let same : behind ++ b ∷ [] ≡ line ++ b ∷ [] = ap (λ (z : List ℕ). z ++ b ∷ []) part.bytes_are in
    inl (record {
      unfinished = subst (IsUnfinished ReadsChunkLine) (sym same) (goes part.unfinished);
      long = omega (arith, part.short, ap length same, length-append line (b ∷ []));
      content_is = append-nil more ∙ part.content_is;
    }))

-- a line that is no size line
pub size_bad : (line : List ℕ) → NeverHasChunkLine (line ++ line_feed ∷ []) → Takes (in_size line) (line_feed ∷ []) [] (refused Bad)
size_bad line never = Takes-behind (in_size line) (refused Bad) (line_feed ∷ []) [] (λ behind more part.
    let same : behind ++ line_feed ∷ [] ≡ line ++ line_feed ∷ [] = ap (λ (z : List ℕ). z ++ line_feed ∷ []) part.bytes_are in
    inl (record {
      hopeless = record {
        before = line;
        ends = same;
        unfinished = part.unfinished;
        never = subst NeverHasChunkLine (sym same) never;
      };
      short = omega (arith, part.short, ap length same, length-append line (line_feed ∷ []));
      content_is = append-nil more ∙ part.content_is;
    }))

-- bytes that the last byte makes a size line are that line
record IsLine (l : ChunkLine) (bytes : List ℕ) : Type 0 where
  size : IsSizeLine l
  bytes_are : bytes ≡ print_chunk_line l

found_line : (line : List ℕ) (b : ℕ) (l : ChunkLine) (rest behind more : List ℕ) → ReadsChunkLine (line ++ b ∷ []) l rest → IsPartOfSize line behind more → IsLine l (behind ++ b ∷ [])
found_line line b l rest behind more reads part =
    let none = whole_at_end size_form line b l rest part.unfinished reads in
    let whole : line ++ b ∷ [] ≡ print_chunk_line l = reads.1 ∙ ap (λ (z : List ℕ). print_chunk_line l ++ z) none ∙ append-nil (print_chunk_line l) in
    record {
      size = record { is_line = reads.0; short = omega (arith, part.short, ap length whole, length-append line (b ∷ [])) };
      bytes_are = ap (λ (z : List ℕ). z ++ b ∷ []) part.bytes_are ∙ whole;
    }

-- no bytes after a size line are none of the CR LF
nothing_behind : (size : ℕ) → drop size [] ≡ take (0 - size) crlf_bytes
nothing_behind size = rw (drop-nil, zero-sub)

-- a size line that begins a chunk
to_chunk : (line : List ℕ) (b : ℕ) (l : ChunkLine) (rest : List ℕ) → ReadsChunkLine (line ++ b ∷ []) l rest → 0 < chunk_size l → chunk_size l ≤ MAX_CHUNK_SIZE → Takes (in_size line) (b ∷ []) [] (in_chunk (chunk_size l + 2))
to_chunk line b l rest reads some fits = Takes-behind (in_size line) (in_chunk (chunk_size l + 2)) (b ∷ []) [] (λ behind more part.
    let found = found_line line b l rest behind more reads part in record {
      line = l;
      behind = [];
      size = found.size;
      some = some;
      fits = fits;
      bytes_are = found.bytes_are ∙ sym (append-nil (print_chunk_line l));
      left_is = omega arith;
      more = omega arith;
      content_is = append-nil more ∙ part.content_is ∙ sym (take-nil (chunk_size l));
      end = nothing_behind (chunk_size l);
    })

-- a size line for 0, which begins the trailer fields
to_trailer : (line : List ℕ) (b : ℕ) (l : ChunkLine) (rest : List ℕ) → ReadsChunkLine (line ++ b ∷ []) l rest → chunk_size l ≡ 0 → Takes (in_size line) (b ∷ []) [] (in_trailer [])
to_trailer line b l rest reads none = Takes-behind (in_size line) (in_trailer []) (b ∷ []) [] (λ behind more part.
    let found = found_line line b l rest behind more reads part in record {
      closed = record {
        line = l;
        size = found.size;
        none = none;
        bytes_are = found.bytes_are ∙ sym (append-nil (print_chunk_line l));
        content_is = append-nil more ∙ part.content_is;
      };
      unfinished = IsUnfinished-none fields_form;
      short = omega arith;
    })

-- a size line of a chunk that is too great
to_great : (line : List ℕ) (b : ℕ) (l : ChunkLine) (rest : List ℕ) → ReadsChunkLine (line ++ b ∷ []) l rest → MAX_CHUNK_SIZE < chunk_size l → Takes (in_size line) (b ∷ []) [] (refused Bad)
to_great line b l rest reads great = Takes-behind (in_size line) (refused Bad) (b ∷ []) [] (λ behind more part.
    let found = found_line line b l rest behind more reads part in
    inr (inl (record {
      line = l;
      size = found.size;
      great = great;
      bytes_are = found.bytes_are;
      content_is = append-nil more ∙ part.content_is;
    })))

-- a size line leads to the state for its size
pub size_found : (line : List ℕ) (b : ℕ) (l : ChunkLine) (rest : List ℕ) → ReadsChunkLine (line ++ b ∷ []) l rest → Takes (in_size line) (b ∷ []) [] (stage_at (behind_size_line (chunk_size l)) [])
size_found line b l rest reads = elim (eqb_tells (chunk_size l) 0) [
  | inl none ↦ rw (none.0) (to_trailer line b l rest reads none.1)
  | inr some ↦ elim (leb_tells (chunk_size l) MAX_CHUNK_SIZE) [
    | inl fits ↦ rw (some.0, fits.0) (to_chunk line b l rest reads (omega (arith, some.1)) fits.1)
    | inr great ↦ rw (some.0, great.0) (to_great line b l rest reads great.1)
  ]
]
