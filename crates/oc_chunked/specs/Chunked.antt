-- The chunked coding of a content (RFC 9112, section 7.1).
use Rattle.std.specs.Prelude.{◌≡◌, ℕ, ◌<◌, ◌≤◌, List, ◌++◌, length, All}
use Rattle.std.specs.List.{AllByRecursion, flat_map}
use Rattle.httparse.specs.Ascii.{crlf_bytes}
use Rattle.httparse.specs.Grammar.{ChunkLine, IsChunkLine, print_chunk_line, chunk_size, Field, IsField, LineEnd, print_section, ReadsSection}
use Rattle.oc_base.specs.declared.limits.TheConstants.{MAX_FIELDS}
use Rattle.oc_chunked.specs.declared.limits.TheConstants.{MAX_CHUNK_SIZE}

-- a chunk: its size line and its bytes
pub record Chunk : Type 0 where
  pub line : ChunkLine
  pub bytes : List ℕ

-- a size from 1 to 2^30, and that many bytes
pub record IsChunk (c : Chunk) : Type 0 where
  pub line : IsChunkLine c.line
  pub some : 0 < chunk_size c.line
  pub fits : chunk_size c.line ≤ MAX_CHUNK_SIZE
  pub whole : length c.bytes ≡ chunk_size c.line

-- the bytes of a chunk with its size line and its CR LF
abbrev pub print_chunk : Chunk → List ℕ
print_chunk c = print_chunk_line c.line ++ (c.bytes ++ crlf_bytes)

abbrev pub print_chunks : List Chunk → List ℕ
print_chunks chunks = flat_map print_chunk chunks

-- the content that chunks carry
abbrev pub content_of : List Chunk → List ℕ
content_of chunks = flat_map (λ c. c.bytes) chunks

-- the end of a text: a size line, trailer fields and their empty line
pub record Trailer : Type 0 where
  pub line : ChunkLine
  pub fields : List Field
  pub last : LineEnd

-- the size is 0, and there are not too many fields
pub record IsTrailer (e : Trailer) : Type 0 where
  pub line : IsChunkLine e.line
  pub none : chunk_size e.line ≡ 0
  pub fields : All IsField e.fields
  pub few : length e.fields ≤ MAX_FIELDS

abbrev pub print_trailer : Trailer → List ℕ
print_trailer e = print_chunk_line e.line ++ print_section e.fields e.last

-- the bytes are fields with their empty line, and then the rest
abbrev pub ReadsFields : List ℕ → List Field × LineEnd → List ℕ → Type 0
ReadsFields bytes fields rest = ReadsSection bytes fields.0 fields.1 rest

-- the text is chunked for the content
pub record IsChunked (text content : List ℕ) : Type 0 where
  pub chunks : List Chunk
  pub trailer : Trailer
  pub all : AllByRecursion IsChunk chunks
  pub closes : IsTrailer trailer
  pub text_is : text ≡ print_chunks chunks ++ print_trailer trailer
  pub content_is : content ≡ content_of chunks
