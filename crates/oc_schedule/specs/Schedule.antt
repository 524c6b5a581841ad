-- The schedule of a text, line by line.
use Rattle.std.specs.Prelude.{ℕ, ◌+◌, ◌-◌, ◌<◌, ◌≤◌, Bool, ◌&&◌, ◌==◌, nat_lt, if◌then◌else◌, Option, Some, None, Result, Ok, Err, List, [], ◌∷◌, ◌++◌, length, slice_index, slice_set, codes}
use Rattle.std.specs.List.{AllByRecursion}
use Rattle.std.specs.Str.{byte, bytes_eq}
use Rattle.std.specs.Str.Lines.{lines}
use Rattle.oc_base.specs.declared.why.Why.{Why}
use Rattle.oc_base.specs.declared.why.Why.TheVariants as causes
use Rattle.oc_model.specs.declared.event.Event.{Event}
use Rattle.oc_base.specs.declared.limits.TheConstants.{MAX_PUBLISH_BYTES, MAX_SCHEDULE_SETTLES}
use Rattle.oc_model.specs.Lawful.{IsHeader, IsEvent}
use Rattle.oc_schedule.specs.declared.fault.ScheduleFault.{ScheduleFault}
use Rattle.oc_schedule.specs.declared.fault.ScheduleFault.TheVariants.{Line, Limit}
use Rattle.oc_schedule.specs.declared.fault.What.TheVariants as limits
use Rattle.oc_schedule.specs.declared.scale.Scale.{Scale}
use Rattle.oc_schedule.specs.Limits.{is_large, most_of}
use Rattle.oc_base.specs.Words.{words}
use Rattle.oc_schedule.specs.Lines.{header_in, area_in, event_in}
use Rattle.oc_base.specs.Steps.{◌>>=◌}
use Rattle.oc_schedule.specs.Reading.{at_line}
use Rattle.oc_schedule.specs.Script.{Script, published_by, published_in, settles_in}

-- the script after the header
abbrev pub first_script : List (List ℕ) → Result Script Why
first_script words = do
  header ← header_in words
  Ok (record { header = header; events = [] })

-- the script with this area of a node
abbrev pub with_area : Script → ℕ × ℕ → Script
with_area s (node, area) = record s { header = record s.header { areas = slice_set s.header.areas (node - 1) area } }

-- the script with one more event
abbrev pub with_event : Script → Event → Script
with_event s event = record s { events = s.events ++ event ∷ [] }

-- the script after a line `area N A`
abbrev pub after_area : Script → List (List ℕ) → Result Script Why
after_area s fields = do
  area ← area_in s.header.nodes fields
  Ok (with_area s area)

-- the script with one more event, which in a large schedule may publish no more than one publish may; where all bytes together
-- may be fewer than that, the limit on them comes first
abbrev pub event_in_range : Scale → Script → Event → Result Script Why
event_in_range scale s event =
    if is_large scale && nat_lt MAX_PUBLISH_BYTES (published_by event) then Err causes.Range else Ok (with_event s event)

-- the script after an event line
abbrev pub after_event : Scale → Script → List ℕ → List (List ℕ) → Result Script Why
after_event scale s word fields = do
  event ← event_in s.header.nodes word fields
  event_in_range scale s event

-- the script after a line that follows the header: an area, while there is no event, or an event
abbrev pub after_line : Scale → Script → List ℕ → List (List ℕ) → Result Script Why
after_line scale s word fields =
    if bytes_eq word (codes "area") && length s.events == 0 then after_area s fields else after_event scale s word fields

-- the script after a line; there is none before the header
abbrev pub script_after : Scale → Option Script → List ℕ → List (List ℕ) → Result Script Why
script_after scale None word fields = first_script (word ∷ fields)
script_after scale (Some s) word fields = after_line scale s word fields

-- the limits on all events together: first the bytes that they publish, then the number of times that they settle or heal
abbrev pub within_limits : Scale → Script → Result Script ScheduleFault
within_limits scale s =
    if nat_lt (most_of scale limits.Published) (published_in s.events) then Err (Limit limits.Published)
    else if nat_lt MAX_SCHEDULE_SETTLES (settles_in s.events) then Err (Limit limits.Settles)
    else Ok s

-- a script, where there is one, within these limits
abbrev pub limited : Scale → Result Script ScheduleFault → Result Script ScheduleFault
limited scale r = r >>= λ s. within_limits scale s

-- a line that is not skipped: its own fault first, and then these limits
abbrev pub read_statement : Scale → ℕ → Option Script → List ℕ → List (List ℕ) → Result Script ScheduleFault
read_statement scale i so_far word fields = limited scale (at_line i (script_after scale so_far word fields))

-- whether a line that begins with this word is a comment
abbrev pub is_comment : List ℕ → Bool
is_comment word = slice_index word 0 == byte "#"

-- a line of these words; empty lines and comments are skipped
abbrev pub read_words : Scale → ℕ → Option Script → List (List ℕ) → Result (Option Script) ScheduleFault
read_words scale i so_far [] = Ok so_far
read_words scale i so_far (word ∷ fields) =
    if is_comment word then Ok so_far
    else do
      s ← read_statement scale i so_far word fields
      Ok (Some s)

-- the line of this number, after the limit on lines
abbrev pub read_line : Scale → ℕ → Option Script → List ℕ → Result (Option Script) ScheduleFault
read_line scale i so_far line = if nat_lt (most_of scale limits.Lines) i then Err (Limit limits.Lines) else read_words scale i so_far (words line)

-- the end of the text; without a header the fault is at the line after the last
abbrev pub script_at_end : ℕ → Option Script → Result Script ScheduleFault
script_at_end i None = Err (Line i causes.Header)
script_at_end i (Some s) = Ok s

-- the lines from this number on, after the script of the lines before them
abbrev pub read_lines : Scale → ℕ → Option Script → List (List ℕ) → Result Script ScheduleFault
read_lines scale i so_far [] = script_at_end i so_far
read_lines scale i so_far (line ∷ rest) = do
  next ← read_line scale i so_far line
  read_lines scale (i + 1) next rest

-- the schedule of a text at this scale, or its first fault
abbrev pub schedule_of : Scale → List ℕ → Result Script ScheduleFault
schedule_of scale bytes = if nat_lt (most_of scale limits.Bytes) (length bytes) then Err (Limit limits.Bytes) else read_lines scale 1 None (lines bytes)

-- a schedule within the ranges and the limits: each line except the header gives at most one event
pub record IsSchedule (scale : Scale) (s : Script) : Type 0 where
  pub header : IsHeader s.header
  pub events : AllByRecursion (IsEvent s.header.nodes) s.events
  pub few : length s.events < most_of scale limits.Lines
  pub published : published_in s.events ≤ most_of scale limits.Published
  pub settles : settles_in s.events ≤ MAX_SCHEDULE_SETTLES
