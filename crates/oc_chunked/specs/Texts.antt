-- The text of a content in chunks.
use Rattle.std.specs.Prelude.{ℕ, zero, suc, false, if◌then◌else◌, ◌==◌, List, [], ◌++◌, length, take, drop, codes}
use Rattle.std.specs.Fmt.{digits}
use Rattle.httparse.specs.Ascii.{crlf_bytes}
use Rattle.oc_chunked.specs.declared.limits.TheConstants.{WRITTEN_BYTES}

-- a size in lower-case hexadecimal, and the bytes, each followed by CR LF
abbrev pub chunk_written : List ℕ → List ℕ
chunk_written bytes = digits 16 false (length bytes) ++ crlf_bytes ++ (bytes ++ crlf_bytes)

-- the end of a text
abbrev pub end_written : List ℕ
end_written = codes "0" ++ crlf_bytes ++ crlf_bytes

-- chunks of 4,096 bytes and one of the rest, at most this number of chunks
unfoldable pub chunks_written : ℕ → List ℕ → List ℕ
chunks_written zero bytes = []
chunks_written (suc most) bytes =
    if length bytes == 0 then []
    else chunk_written (take WRITTEN_BYTES bytes) ++ chunks_written most (drop WRITTEN_BYTES bytes)

-- the chunked text of a content
abbrev pub chunked_text : List ℕ → List ℕ
chunked_text bytes = chunks_written (length bytes) bytes ++ end_written
