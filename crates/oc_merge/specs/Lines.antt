-- The lines of a record: the meaning of the fields for each kind.
use Rattle.std.specs.Prelude.{ℕ, ◌-◌, Bool, not, ◌&&◌, ◌||◌, ◌==◌, nat_le, nat_lt, if◌then◌else◌, Option, Some, None, Result, Ok, Err, List, ◌++◌, length, drop, slice_index, codes, decimal}
use Rattle.std.specs.Char.{is_ascii_digit}
use Rattle.std.specs.List.{list_all}
use Rattle.std.specs.Str.{byte, bytes_eq}
use Rattle.hex.specs.Hex.{decode_of}
use Rattle.oc_base.specs.Steps.{◌>>=◌, with_fault}
use Rattle.oc_base.specs.Words.{two, node_in}
use Rattle.oc_base.specs.declared.limits.TheConstants.{MAX_PUBLISH_BYTES}
use Rattle.oc_base.specs.declared.why.Why.{Why}
use Rattle.oc_base.specs.declared.why.Why.TheVariants as causes
use Rattle.oc_model.specs.declared.event.Act.{Act}
use Rattle.oc_model.specs.declared.event.Act.TheVariants.{At, Deliver}
use Rattle.oc_schedule.specs.Acts.{act_in}
use Rattle.oc_merge.specs.declared.told.Told.{Told}
use Rattle.oc_merge.specs.declared.told.Told.TheVariants.{Came, Took}
use Rattle.oc_merge.specs.Told.{published_by}

-- Lines that are skipped

-- whether a line was cut off by a kill: the next run ended it by this byte, by which no other line ends but a comment
abbrev pub is_cut_off : List ℕ → Bool
is_cut_off line = not (slice_index line 0 == byte "#") && slice_index line (length line - 1) == byte "#"

-- whether a line that begins with this word is a comment
abbrev pub is_comment : List ℕ → Bool
is_comment word = slice_index word 0 == byte "#"

-- whether the line is a note that a running node prints beside its inputs
abbrev pub is_note : List ℕ → Bool
is_note word = slice_index word 0 == byte "!"

-- The files of a start

abbrev pub is_digit : ℕ → Bool
is_digit b = is_ascii_digit b || (nat_le (byte "a") b && nat_le b (byte "f"))

-- whether these are 64 hexadecimal digits in lower case
abbrev pub is_digest : List ℕ → Bool
is_digest digits = length digits == 64 && list_all is_digit digits

-- the line that tells the files which a node found, by these digits
abbrev pub files_line : ℕ → List ℕ → List ℕ
files_line node digits = (codes "# " ++ decimal node) ++ codes " has " ++ digits

-- the place of the digits: the last 64 bytes
abbrev pub last_64 : List ℕ → List ℕ
last_64 line = drop (length line - 64) line

-- the digits of `# N has H`, where the line is spelled exactly so
abbrev pub files_in : ℕ → List ℕ → Option (List ℕ)
files_in node line = if is_digest (last_64 line) && bytes_eq line (files_line node (last_64 line)) then Some (last_64 line) else None

-- Inputs

-- the statement of a line about a node, which must be `me`, whose record it is
abbrev pub of_own : ℕ → ℕ → Told → Result Told Why
of_own me node told = if node == me then Ok told else Err causes.Word

-- `recv N HEX`
abbrev pub came_in : ℕ → ℕ → List (List ℕ) → Result Told Why
came_in nodes me fields = do
  (n, x) ← two fields
  node ← node_in nodes n
  bytes ← with_fault causes.Hex (decode_of x)
  of_own me node (Came bytes)

-- a line publishes at most as much as one publish may
abbrev pub of_input : ℕ → ℕ → Told → Result Told Why
of_input me node told = if nat_lt MAX_PUBLISH_BYTES (published_by told) then Err causes.Range else of_own me node told

-- the input that an act line tells
abbrev pub own_input : ℕ → Act → Result Told Why
own_input me (At node input) = of_input me node (Took input)
own_input me (Deliver number) = Err causes.Word

-- whether a record has act lines of this word
abbrev pub is_recorded : List ℕ → Bool
is_recorded word =
    bytes_eq word (codes "tick") || bytes_eq word (codes "fail") || bytes_eq word (codes "measure") || bytes_eq word (codes "publish")
    || bytes_eq word (codes "seal") || bytes_eq word (codes "client")

-- `tick`, `fail`, `measure`, `publish`, `seal` and `client`
abbrev pub took_in : ℕ → ℕ → List ℕ → List (List ℕ) → Result Told Why
took_in nodes me word fields = do
  act ← act_in nodes word fields
  own_input me act

-- a line of the record of `me`, by its word
abbrev pub told_in : ℕ → ℕ → List ℕ → List (List ℕ) → Result Told Why
told_in nodes me word fields =
    if bytes_eq word (codes "recv") then came_in nodes me fields
    else if is_recorded word then took_in nodes me word fields
    else Err causes.Word
