-- The stage and the content of bytes.
use Rattle.std.specs.Prelude.{◌≡◌, ◌≢◌, ℕ, ◌+◌, ◌-◌, ◌<◌, ◌≤◌, ◌⊎◌, List, [], ◌∷◌, ◌++◌, length, take, drop, slice_index}
use Rattle.std.specs.List.{AllByRecursion}
use Rattle.httparse.specs.Ascii.{crlf_bytes}
use Rattle.httparse.specs.Grammar.{ChunkLine, IsChunkLine, print_chunk_line, chunk_size, ReadsChunkLine, Field, LineEnd}
use Rattle.oc_base.specs.declared.limits.TheConstants.{MAX_FIELDS}
use Rattle.oc_http.specs.Unfinished.{IsUnfinished, IsHopeless}
use Rattle.oc_chunked.specs.declared.fault.ChunkFault.{ChunkFault}
use Rattle.oc_chunked.specs.declared.fault.ChunkFault.TheVariants.{Bad, Long, Memory}
use Rattle.oc_chunked.specs.declared.limits.TheConstants.{MAX_CHUNK_SIZE, MAX_SIZE_LINE_BYTES, MAX_TRAILER_BYTES}
use Rattle.oc_chunked.specs.Chunked.{Chunk, IsChunk, print_chunks, content_of, ReadsFields}
use Rattle.oc_chunked.specs.Stages.{DecoderState, in_size, in_chunk, in_trailer, ended, refused}

-- a size line that is not too long
pub record IsSizeLine (line : ChunkLine) : Type 0 where
  pub is_line : IsChunkLine line
  pub short : length (print_chunk_line line) ≤ MAX_SIZE_LINE_BYTES

-- a chunk whose size line is not too long
pub record IsShortChunk (c : Chunk) : Type 0 where
  pub chunk : IsChunk c
  pub short : length (print_chunk_line c.line) ≤ MAX_SIZE_LINE_BYTES

-- The bytes that can follow whole chunks:

-- a part of a size line
pub record IsPartOfSize (line bytes content : List ℕ) : Type 0 where
  pub bytes_are : bytes ≡ line
  pub content_is : content ≡ []
  pub unfinished : IsUnfinished ReadsChunkLine line
  pub short : length line < MAX_SIZE_LINE_BYTES

-- a size line and a part of its chunk, of which `left` bytes are left
pub record IsPartOfChunk (left : ℕ) (bytes content : List ℕ) : Type 0 where
  pub line : ChunkLine
  pub behind : List ℕ
  pub size : IsSizeLine line
  pub some : 0 < chunk_size line
  pub fits : chunk_size line ≤ MAX_CHUNK_SIZE
  pub bytes_are : bytes ≡ print_chunk_line line ++ behind
  pub left_is : length behind + left ≡ chunk_size line + 2
  pub more : 0 < left
  pub content_is : content ≡ take (chunk_size line) behind
  pub end : drop (chunk_size line) behind ≡ take (length behind - chunk_size line) crlf_bytes

-- a size line for 0 and these bytes after it
pub record IsClosedBy (behind bytes content : List ℕ) : Type 0 where
  pub line : ChunkLine
  pub size : IsSizeLine line
  pub none : chunk_size line ≡ 0
  pub bytes_are : bytes ≡ print_chunk_line line ++ behind
  pub content_is : content ≡ []

-- a last size line and a part of the trailer fields
pub record IsPartOfTrailer (front bytes content : List ℕ) : Type 0 where
  pub closed : IsClosedBy front bytes content
  pub unfinished : IsUnfinished ReadsFields front
  pub short : length front < MAX_TRAILER_BYTES

-- a last size line and all the trailer fields
pub record IsWhole (bytes content : List ℕ) : Type 0 where
  pub front : List ℕ
  pub fields : List Field × LineEnd
  pub closed : IsClosedBy front bytes content
  pub reads : ReadsFields front fields []
  pub few : length fields.0 ≤ MAX_FIELDS
  pub short : length front ≤ MAX_TRAILER_BYTES

-- a line that is no size line
pub record HasBadSize (bytes content : List ℕ) : Type 0 where
  pub hopeless : IsHopeless ReadsChunkLine bytes
  pub short : length bytes ≤ MAX_SIZE_LINE_BYTES
  pub content_is : content ≡ []

-- a size line of a chunk that is too great
pub record HasGreatSize (bytes content : List ℕ) : Type 0 where
  pub line : ChunkLine
  pub size : IsSizeLine line
  pub great : MAX_CHUNK_SIZE < chunk_size line
  pub bytes_are : bytes ≡ print_chunk_line line
  pub content_is : content ≡ []

-- a chunk's size line and bytes, and then a byte that is not that of CR LF
pub record HasBadEnd (bytes content : List ℕ) : Type 0 where
  pub before : List ℕ
  pub left : ℕ
  pub byte : ℕ
  pub part : IsPartOfChunk left before content
  pub near : left ≤ 2
  pub other : byte ≢ slice_index crlf_bytes (2 - left)
  pub bytes_are : bytes ≡ before ++ byte ∷ []

-- a size line for 0, and a line that is no trailer field or too many fields
pub record HasBadTrailer (bytes content : List ℕ) : Type 0 where
  pub front : List ℕ
  pub closed : IsClosedBy front bytes content
  pub cause : IsHopeless ReadsFields front
      ⊎ ((fields : List Field × LineEnd) × ReadsFields front fields [] × (MAX_FIELDS < length fields.0))
  pub short : length front ≤ MAX_TRAILER_BYTES

-- a size line of the greatest length, without its end
pub record HasLongSize (bytes content : List ℕ) : Type 0 where
  pub unfinished : IsUnfinished ReadsChunkLine bytes
  pub long : length bytes ≡ MAX_SIZE_LINE_BYTES
  pub content_is : content ≡ []

-- a size line for 0, and as many bytes as the trailer fields may have, without their end
pub record HasLongTrailer (bytes content : List ℕ) : Type 0 where
  pub front : List ℕ
  pub closed : IsClosedBy front bytes content
  pub unfinished : IsUnfinished ReadsFields front
  pub long : length front ≡ MAX_TRAILER_BYTES

-- bytes after whole chunks that lead to this stage, with this content
abbrev pub LeadsOn : DecoderState → List ℕ → List ℕ → Type 0
LeadsOn (in_size line) bytes content = IsPartOfSize line bytes content
LeadsOn (in_chunk left) bytes content = IsPartOfChunk left bytes content
LeadsOn (in_trailer front) bytes content = IsPartOfTrailer front bytes content
LeadsOn ended bytes content = IsWhole bytes content
LeadsOn (refused Bad) bytes content = HasBadSize bytes content ⊎ HasGreatSize bytes content ⊎ HasBadEnd bytes content ⊎ HasBadTrailer bytes content
LeadsOn (refused Long) bytes content = HasLongSize bytes content ⊎ HasLongTrailer bytes content
LeadsOn (refused Memory) bytes content = ⊥

-- the bytes lead to this stage, with this content
pub record IsTaken (bytes content : List ℕ) (stage : DecoderState) : Type 0 where
  pub chunks : List Chunk
  pub behind : List ℕ
  pub more : List ℕ
  pub all : AllByRecursion IsShortChunk chunks
  pub leads : LeadsOn stage behind more
  pub bytes_are : bytes ≡ print_chunks chunks ++ behind
  pub content_is : content ≡ content_of chunks ++ more

-- the bytes lead from the old stage to the new one, with this content
pub record Takes (old : DecoderState) (bytes content : List ℕ) (new : DecoderState) : Type 0 where
  pub on : (before given : List ℕ) → IsTaken before given old → IsTaken (before ++ bytes) (given ++ content) new

-- a prefix of the piece leads from the old stage to the refusal
pub record RefusesPiece (old : DecoderState) (piece : List ℕ) (fault : ChunkFault) : Type 0 where
  pub front : List ℕ
  pub rest : List ℕ
  pub content : List ℕ
  pub piece_is : piece ≡ front ++ rest
  pub takes : Takes old front content (refused fault)
