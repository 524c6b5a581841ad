-- A whole text is chunked, and a chunked text is whole.
use Rattle.std.proofs.Common.{◌≡◌, ℕ, ◌≤◌, inl, inr, List, [], ◌∷◌, ◌++◌, length, refl, sym, ap, ◌∙◌, subst, arith, length-append}
use Rattle.std.specs.Prelude.{MatchBool}
use Rattle.std.proofs.lemmas.Bool.{le-leb}
use Rattle.std.proofs.lemmas.List.{append_assoc, append-nil}
use Rattle.std.specs.List.{AllByRecursion}
use Rattle.httparse.specs.Ascii.{crlf_bytes}
use Rattle.httparse.specs.Grammar.{ChunkLine, IsChunkLine, print_chunk_line, chunk_size, ReadsChunkLine, Field, LineEnd, print_section}
use Rattle.oc_base.specs.declared.limits.TheConstants.{MAX_FIELDS}
use Rattle.oc_chunked.specs.declared.limits.TheConstants.{MAX_SIZE_LINE_BYTES, MAX_TRAILER_BYTES}
use Rattle.oc_chunked.specs.Chunked.{Chunk, IsChunk, print_chunk, print_chunks, content_of, Trailer, IsTrailer, print_trailer, IsChunked, ReadsFields}
use Rattle.oc_chunked.specs.Stages.{DecoderState, in_size, in_chunk, in_trailer, ended, refused, is_ended}
use Rattle.oc_chunked.specs.Taken.{IsShortChunk, IsTaken}
use Rattle.oc_chunked.proofs.Forms.{fields_form}
use Rattle.oc_chunked.proofs.Collected.{Outcome, unended, hopeless, too_long, whole, Collects, collects_once}
use Rattle.oc_chunked.proofs.Bodies.{Agrees, IsTrailerBody, stage_behind, trailer, chunk, great}
use Rattle.oc_chunked.proofs.OneWay.{IsBehind, IsSized, behind, no_size_no_line, same_line, same_chunk, chunk_not_sized}

all_chunks : (chunks : List Chunk) → AllByRecursion IsShortChunk chunks → AllByRecursion IsChunk chunks
all_chunks [] all = tt
all_chunks (c ∷ chunks) all = ((all.0).chunk, all_chunks chunks all.1)

-- bytes that lead to the end are chunked
pub whole_chunked : (bytes content : List ℕ) → IsTaken bytes content ended → IsChunked bytes content
whole_chunked bytes content taken =
    let end = taken.leads in
    let front : end.front ≡ print_section end.fields.0 end.fields.1 = end.reads.1 ∙ append-nil (print_section end.fields.0 end.fields.1) in record {
      chunks = taken.chunks;
      trailer = record { line = end.closed.line; fields = end.fields.0; last = end.fields.1 };
      all = all_chunks taken.chunks taken.all;
      closes = record { line = end.closed.size.is_line; none = end.closed.none; fields = end.reads.0; few = end.few };
      text_is =
          taken.bytes_are
          ∙ ap (λ (z : List ℕ). print_chunks taken.chunks ++ z) (end.closed.bytes_are ∙ ap (λ (z : List ℕ). print_chunk_line end.closed.line ++ z) front);
      content_is = taken.content_is ∙ ap (λ (z : List ℕ). content_of taken.chunks ++ z) end.closed.content_is ∙ append-nil (content_of taken.chunks);
    }

-- collected bytes are not too long
collects_short : {T : Type 0} (Reads : List ℕ → T → List ℕ → Type 0) (most : ℕ) (bytes : List ℕ) (o : Outcome T) → Collects Reads most bytes o → length bytes ≤ most
collects_short Reads most bytes unended c = omega (arith, c.1)
collects_short Reads most bytes hopeless c = c.1
collects_short Reads most bytes too_long c = omega (arith, c.1)
collects_short Reads most bytes (whole t) c = c.1

-- bytes that begin with a size line are taken as one
sized : (u v c : List ℕ) (s : DecoderState) (l : ChunkLine) → IsBehind u c s → IsChunkLine l → u ≡ print_chunk_line l ++ v → IsSized u c s
sized u v c s l (inl first) is e =
    let few = collects_short ReadsChunkLine MAX_SIZE_LINE_BYTES u first.outcome first.collects in
    let short : length (print_chunk_line l) ≤ MAX_SIZE_LINE_BYTES = omega (arith, few, ap length e, length-append (print_chunk_line l) v) in
    absurd (no_size_no_line u [] v c s l first (record { is_line = is; short = short }) (append-nil u ∙ e) (inl refl))
sized u v c s l (inr first) is e = first

-- the trailer fields end the text
fields_end : (v c : List ℕ) (s : DecoderState) (fields : List Field) (last : LineEnd) → ReadsFields v (fields, last) [] → length fields ≤ MAX_FIELDS → IsTrailerBody v c s → Agrees [] s ended c []
fields_end v c s fields last reads few body =
    let all : List Field × LineEnd = (fields, last) in
    let short = collects_short ReadsFields MAX_TRAILER_BYTES v body.outcome body.collects in
    let other : Collects ReadsFields MAX_TRAILER_BYTES (v ++ []) (whole all) = subst (λ (z : List ℕ). Collects ReadsFields MAX_TRAILER_BYTES z (whole all)) (sym (append-nil v)) (reads, short) in
    let one = collects_once fields_form MAX_TRAILER_BYTES v [] body.outcome (whole all) body.collects other (inl refl) in
    record {
      none = refl;
      stage = body.stage ∙ ap (stage_behind v) one.same ∙ rw (le-leb _ _ few) refl;
      content = body.content;
    }

trailer_end : (u c : List ℕ) (s : DecoderState) (e : Trailer) → IsTrailer e → u ≡ print_trailer e → IsBehind u c s → Agrees [] s ended c []
trailer_end u c s e is text first =
    let section = print_section e.fields e.last in
    let there = sized u section c s e.line first is.line text in
    let same = same_line there.line e.line there.behind section there.size.is_line is.line (sym there.bytes ∙ text) in
    let size : chunk_size there.line ≡ 0 = ap chunk_size same.0 ∙ is.none in
    let reads : ReadsFields there.behind (e.fields, e.last) [] = (is.fields, same.1 ∙ sym (append-nil section)) in
    elim there.body [
      | trailer none body ↦ fields_end there.behind c s e.fields e.last reads is.few body
      | chunk some fits body ↦ absurd (omega (arith, some, size))
      | great over body ↦ absurd (omega (arith, over, size))
    ]

-- chunk for chunk
walk_whole : (ks ms : List Chunk) (e : Trailer) (u c : List ℕ) (s : DecoderState) → AllByRecursion IsChunk ks → AllByRecursion IsShortChunk ms → IsTrailer e → IsBehind u c s → print_chunks ks ++ print_trailer e ≡ print_chunks ms ++ u → Agrees [] s ended (content_of ms ++ c) (content_of ks)
walk_whole [] [] e u c s all every closes first text = trailer_end u c s e closes (sym text) first
walk_whole [] (m ∷ ms) e u c s all every closes first text =
    let chunk = (every.0).chunk in
    let both : print_chunk_line e.line ++ print_section e.fields e.last ≡ print_chunk_line m.line ++ ((m.bytes ++ crlf_bytes) ++ (print_chunks ms ++ u)) =
    text ∙ append_assoc (print_chunk m) (print_chunks ms) u ∙ append_assoc (print_chunk_line m.line) (m.bytes ++ crlf_bytes) (print_chunks ms ++ u) in
    let same = same_line e.line m.line (print_section e.fields e.last) ((m.bytes ++ crlf_bytes) ++ (print_chunks ms ++ u)) closes.line chunk.line both in
    absurd (omega (arith, closes.none, chunk.some, ap chunk_size same.0))
walk_whole (k ∷ ks) [] e u c s all every closes first text =
    let rest = print_chunks ks ++ print_trailer e in
    let there : u ≡ print_chunk k ++ rest = sym text ∙ append_assoc (print_chunk k) (print_chunks ks) (print_trailer e) in
    let one = sized u ((k.bytes ++ crlf_bytes) ++ rest) c s k.line first (all.0).line (there ∙ append_assoc (print_chunk_line k.line) (k.bytes ++ crlf_bytes) rest) in
    absurd (chunk_not_sized u [] rest c s k all.0 (append-nil u ∙ there) one (inl refl))
walk_whole (k ∷ ks) (m ∷ ms) e u c s all every closes first text =
    let both : print_chunk k ++ (print_chunks ks ++ print_trailer e) ≡ print_chunk m ++ (print_chunks ms ++ u) =
    sym (append_assoc (print_chunk k) (print_chunks ks) (print_trailer e)) ∙ text ∙ append_assoc (print_chunk m) (print_chunks ms) u in
    let same = same_chunk k m (print_chunks ks ++ print_trailer e) (print_chunks ms ++ u) all.0 (every.0).chunk both in
    let rest = walk_whole ks ms e u c s all.1 every.1 closes first same.rest in
    record {
      none = refl;
      stage = rest.stage;
      content = append_assoc m.bytes (content_of ms) c ∙ ap (λ (z : List ℕ). m.bytes ++ z) rest.content ∙ ap (λ (z : List ℕ). z ++ content_of ks) (sym same.bytes);
    }

-- a chunked text leads to the end, with its content
pub chunked_whole : (bytes content given : List ℕ) (s : DecoderState) → IsChunked bytes content → IsTaken bytes given s → (s ≡ ended) × (given ≡ content)
chunked_whole bytes content given s text taken =
    let one = walk_whole text.chunks taken.chunks text.trailer taken.behind taken.more s text.all taken.all text.closes (behind s taken.behind taken.more taken.leads) (sym text.text_is ∙ taken.bytes_are) in
    (one.stage, taken.content_is ∙ one.content ∙ sym text.content_is)

-- whether the text is whole tells whether the bytes are chunked
pub ended_tells : (s : DecoderState) (bytes content : List ℕ) → IsTaken bytes content s → MatchBool (is_ended s) (IsChunked bytes content) ((other : List ℕ) → ¬ (IsChunked bytes other))
ended_tells ended bytes content taken = whole_chunked bytes content taken
ended_tells (in_size line) bytes content taken = λ other text. let e = (chunked_whole bytes other content (in_size line) text taken).0 in cc e
ended_tells (in_chunk left) bytes content taken = λ other text. let e = (chunked_whole bytes other content (in_chunk left) text taken).0 in cc e
ended_tells (in_trailer front) bytes content taken = λ other text. let e = (chunked_whole bytes other content (in_trailer front) text taken).0 in cc e
ended_tells (refused fault) bytes content taken = λ other text. let e = (chunked_whole bytes other content (refused fault) text taken).0 in cc e
