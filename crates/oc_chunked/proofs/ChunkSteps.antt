-- A byte of the CR LF after a chunk.
use Rattle.std.proofs.Common.{◌≡◌, ◌≢◌, ℕ, ◌+◌, ◌-◌, ◌≤◌, inl, inr, List, [], ◌∷◌, ◌++◌, length, take, drop, slice_index, refl, sym, ap, ◌∙◌, arith, length-append}
use Rattle.std.proofs.lemmas.List.{append_assoc, append-nil, take-append-le, drop_at, take-append-drop, length-take-le}
use Rattle.std.specs.List.{AllByRecursion}
use Rattle.httparse.specs.Ascii.{crlf_bytes}
use Rattle.httparse.specs.Grammar.{print_chunk_line, chunk_size}
use Rattle.oc_http.proofs.Heads.{IsUnfinished-none}
use Rattle.oc_chunked.specs.Chunked.{Chunk, print_chunk, print_chunks, content_of}
use Rattle.oc_chunked.specs.declared.fault.ChunkFault.TheVariants.{Bad}
use Rattle.oc_chunked.specs.Stages.{DecoderState, in_size, in_chunk, refused}
use Rattle.oc_chunked.specs.Taken.{Takes, IsPartOfChunk, IsShortChunk}
use Rattle.oc_chunked.proofs.Forms.{size_form}
use Rattle.oc_chunked.proofs.Steps.{Takes-behind}

-- a chunk with its size line and its CR LF
record IsWholeChunk (bytes content : List ℕ) : Type 0 where
  chunk : Chunk
  short : IsShortChunk chunk
  bytes_are : bytes ≡ print_chunk chunk
  content_is : content ≡ chunk.bytes

-- one more chunk
all_push : (chunks : List Chunk) (c : Chunk) → AllByRecursion IsShortChunk chunks → IsShortChunk c → AllByRecursion IsShortChunk (chunks ++ c ∷ [])
all_push [] c all one = (one, tt)
all_push (d ∷ chunks) c all one = (all.0, all_push chunks c all.1 one)

chunks_push : (chunks : List Chunk) (c : Chunk) → print_chunks (chunks ++ c ∷ []) ≡ print_chunks chunks ++ print_chunk c
chunks_push [] c = append-nil (print_chunk c)
chunks_push (d ∷ chunks) c = ap (λ (z : List ℕ). print_chunk d ++ z) (chunks_push chunks c) ∙ sym (append_assoc (print_chunk d) (print_chunks chunks) (print_chunk c))

content_push : (chunks : List Chunk) (c : Chunk) → content_of (chunks ++ c ∷ []) ≡ content_of chunks ++ c.bytes
content_push [] c = append-nil c.bytes
content_push (d ∷ chunks) c = ap (λ (z : List ℕ). d.bytes ++ z) (content_push chunks c) ∙ sym (append_assoc d.bytes (content_of chunks) c.bytes)

-- the byte is not that of CR LF
pub chunk_bad : (left b : ℕ) → left ≤ 2 → b ≢ slice_index crlf_bytes (2 - left) → Takes (in_chunk left) (b ∷ []) [] (refused Bad)
chunk_bad left b near other = Takes-behind (in_chunk left) (refused Bad) (b ∷ []) [] (λ behind more part.
    inr (inr (inl (record {
      before = behind;
      left = left;
      byte = b;
      part = rw append-nil part;
      near = near;
      other = other;
      bytes_are = refl;
    }))))

-- a byte after all bytes of a chunk adds none to them
return_content : (size : ℕ) (behind content : List ℕ) (b : ℕ) → length behind ≡ size → content ≡ take size behind → content ++ [] ≡ take size (behind ++ b ∷ [])
return_content size behind content b long is =
    append-nil content ∙ is ∙ sym (take-append-le size behind (b ∷ []) (omega arith))

-- the byte is the first of the CR LF
return_end : (size : ℕ) (behind : List ℕ) → length behind ≡ size → drop size (behind ++ 13 ∷ []) ≡ take (length (behind ++ 13 ∷ []) - size) crlf_bytes
return_end size behind long =
    let one : length (behind ++ 13 ∷ []) - size ≡ 1 = omega (arith, length-append behind (13 ∷ [])) in
    drop_at behind (13 ∷ []) size long ∙ sym (ap (λ (n : ℕ). take n crlf_bytes) one)

-- the carriage return
pub chunk_return : Takes (in_chunk 2) (13 ∷ []) [] (in_chunk 1)
chunk_return = Takes-behind (in_chunk 2) (in_chunk 1) (13 ∷ []) [] (λ behind more part.
    let long : length part.behind ≡ chunk_size part.line = omega (arith, part.left_is) in record {
      line = part.line;
      behind = part.behind ++ 13 ∷ [];
      size = part.size;
      some = part.some;
      fits = part.fits;
      bytes_are = ap (λ (z : List ℕ). z ++ 13 ∷ []) part.bytes_are ∙ append_assoc (print_chunk_line part.line) part.behind (13 ∷ []);
      left_is = omega (arith, part.left_is, length-append part.behind (13 ∷ []));
      more = omega arith;
      content_is = return_content (chunk_size part.line) part.behind more 13 long part.content_is;
      end = return_end (chunk_size part.line) part.behind long;
    })

-- all but the line feed are the bytes of a chunk and a carriage return
feed_bytes : (size : ℕ) (behind : List ℕ) → length behind + 1 ≡ size + 2 → drop size behind ≡ take (length behind - size) crlf_bytes → behind ++ 10 ∷ [] ≡ take size behind ++ crlf_bytes
feed_bytes size behind long end =
    let one : length behind - size ≡ 1 = omega arith in
    let last : drop size behind ≡ 13 ∷ [] = end ∙ ap (λ (n : ℕ). take n crlf_bytes) one in
    ap (λ (z : List ℕ). z ++ 10 ∷ []) (sym (take-append-drop size behind))
    ∙ append_assoc (take size behind) (drop size behind) (10 ∷ [])
    ∙ ap (λ (z : List ℕ). take size behind ++ (z ++ 10 ∷ [])) last

-- the chunk that the line feed ends
whole_chunk : (behind more : List ℕ) (part : IsPartOfChunk 1 behind more) → IsWholeChunk (behind ++ 10 ∷ []) more
whole_chunk behind more part = record {
  chunk = record { line = part.line; bytes = take (chunk_size part.line) part.behind };
  short = record {
    chunk = record {
      line = part.size.is_line;
      some = part.some;
      fits = part.fits;
      whole = length-take-le (chunk_size part.line) part.behind (omega (arith, part.left_is));
    };
    short = part.size.short;
  };
  bytes_are =
      ap (λ (z : List ℕ). z ++ 10 ∷ []) part.bytes_are
      ∙ append_assoc (print_chunk_line part.line) part.behind (10 ∷ [])
      ∙ ap (λ (z : List ℕ). print_chunk_line part.line ++ z) (feed_bytes (chunk_size part.line) part.behind part.left_is part.end);
  content_is = part.content_is;
}

-- the line feed ends the chunk
pub chunk_feed : Takes (in_chunk 1) (10 ∷ []) [] (in_size [])
chunk_feed = record {
  on = λ before given taken.
      let found = whole_chunk taken.behind taken.more taken.leads in record {
        chunks = taken.chunks ++ found.chunk ∷ [];
        behind = [];
        more = [];
        all = all_push taken.chunks found.chunk taken.all found.short;
        leads = record { bytes_are = refl; content_is = refl; unfinished = IsUnfinished-none size_form; short = omega arith };
        bytes_are =
            ap (λ (z : List ℕ). z ++ 10 ∷ []) taken.bytes_are
            ∙ append_assoc (print_chunks taken.chunks) taken.behind (10 ∷ [])
            ∙ ap (λ (z : List ℕ). print_chunks taken.chunks ++ z) found.bytes_are
            ∙ sym (chunks_push taken.chunks found.chunk)
            ∙ sym (append-nil (print_chunks (taken.chunks ++ found.chunk ∷ [])));
        content_is =
            append-nil given
            ∙ taken.content_is
            ∙ ap (λ (z : List ℕ). content_of taken.chunks ++ z) found.content_is
            ∙ sym (content_push taken.chunks found.chunk)
            ∙ sym (append-nil (content_of (taken.chunks ++ found.chunk ∷ [])));
      };
}

-- no chunk has nothing left
pub chunk_none : (b : ℕ) (s : DecoderState) → Takes (in_chunk 0) (b ∷ []) [] s
chunk_none b s = record { on = λ before given taken. absurd (omega (arith, taken.leads.more)) }
