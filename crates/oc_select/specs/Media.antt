-- Media types (RFC 9110, section 8.3), by the ending of a path.
use Rattle.std.specs.Prelude.{ℕ, ◌==◌, if◌then◌else◌, Option, Some, None, List, [], ◌∷◌, codes}
use Rattle.std.specs.List.{slice_split}
use Rattle.std.specs.Str.{byte, str_eq_ignore_ascii_case}

-- an ending, and the media type of contents whose path has it
abbrev pub Row : Type 0
Row = List ℕ × List ℕ

-- the media types that are known
abbrev pub types : List Row
types =
    (codes "html", codes "text/html; charset=utf-8") ∷ (codes "htm", codes "text/html; charset=utf-8")
    ∷ (codes "txt", codes "text/plain; charset=utf-8") ∷ (codes "log", codes "text/plain; charset=utf-8")
    ∷ (codes "css", codes "text/css")
    ∷ (codes "js", codes "text/javascript") ∷ (codes "mjs", codes "text/javascript")
    ∷ (codes "json", codes "application/json")
    ∷ (codes "xml", codes "application/xml")
    ∷ (codes "svg", codes "image/svg+xml")
    ∷ (codes "png", codes "image/png")
    ∷ (codes "jpg", codes "image/jpeg") ∷ (codes "jpeg", codes "image/jpeg")
    ∷ (codes "gif", codes "image/gif")
    ∷ (codes "webp", codes "image/webp")
    ∷ (codes "ico", codes "image/vnd.microsoft.icon")
    ∷ (codes "pdf", codes "application/pdf")
    ∷ (codes "mp4", codes "video/mp4")
    ∷ (codes "webm", codes "video/webm")
    ∷ (codes "mp3", codes "audio/mpeg")
    ∷ (codes "ogg", codes "audio/ogg")
    ∷ (codes "m3u8", codes "application/vnd.apple.mpegurl")
    ∷ (codes "ts", codes "video/mp2t")
    ∷ (codes "mpd", codes "application/dash+xml")
    ∷ (codes "vtt", codes "text/vtt")
    ∷ (codes "wasm", codes "application/wasm")
    ∷ (codes "zip", codes "application/zip")
    ∷ (codes "tar", codes "application/x-tar")
    ∷ (codes "gz", codes "application/gzip")
    ∷ (codes "xz", codes "application/x-xz")
    ∷ (codes "zst", codes "application/zstd")
    ∷ (codes "bz2", codes "application/x-bzip2")
    ∷ (codes "deb", codes "application/vnd.debian.binary-package")
    ∷ (codes "iso", codes "application/x-iso9660-image")
    ∷ []

-- the media type of an ending, in any case, and the one of bytes where no row has it
abbrev pub type_in : List Row → List ℕ → List ℕ
type_in [] ending = codes "application/octet-stream"
type_in (row ∷ rows) ending = if str_eq_ignore_ascii_case row.0 ending then row.1 else type_in rows ending

-- the last of some parts
abbrev pub last_of : List (List ℕ) → List ℕ
last_of [] = []
last_of (part ∷ []) = part
last_of (part ∷ second ∷ more) = last_of (second ∷ more)

-- the last of the parts that a byte separates
abbrev pub last_part : ℕ → List ℕ → List ℕ
last_part separator bytes = last_of (slice_split (λ b. b == separator) bytes)

-- the last segment of a path
abbrev pub last_segment : List ℕ → List ℕ
last_segment path = last_part (byte "/") path

-- the last of the parts where there is more than one
abbrev pub last_of_several : List (List ℕ) → Option (List ℕ)
last_of_several [] = None
last_of_several (part ∷ []) = None
last_of_several (part ∷ second ∷ more) = Some (last_of (second ∷ more))

-- what is after the last `.` of a segment, and nothing without one
abbrev pub ending : List ℕ → Option (List ℕ)
ending segment = last_of_several (slice_split (λ b. b == byte ".") segment)

-- the media type of an ending, and the one of bytes without an ending
abbrev pub type_of : Option (List ℕ) → List ℕ
type_of None = codes "application/octet-stream"
type_of (Some ending) = type_in types ending

-- the media type of the content of a path
abbrev pub media_type : List ℕ → List ℕ
media_type path = type_of (ending (last_segment path))
