-- The text of a schedule: a line of words for the header, for each area that is not 0, and for each event.
use Rattle.std.specs.Prelude.{ℕ, ◌+◌, ◌==◌, ◌≤◌, if◌then◌else◌, List, [], ◌∷◌, ◌++◌, length}
use Rattle.std.specs.List.{AllByRecursion}
use Rattle.oc_model.specs.declared.event.Event.{Event}
use Rattle.oc_model.specs.declared.event.Event.TheVariants.{Do, Stop}
use Rattle.oc_schedule.specs.declared.fault.What.TheVariants.{Lines, Bytes}
use Rattle.oc_schedule.specs.declared.scale.Scale.{Scale}
use Rattle.oc_schedule.specs.Acts.{PublishesBytes}
use Rattle.oc_schedule.specs.Texts.{line_text}
use Rattle.oc_schedule.specs.Lines.{header_words, area_words, event_words}
use Rattle.oc_schedule.specs.Limits.{most_of}
use Rattle.oc_schedule.specs.Schedule.{IsSchedule}
use Rattle.oc_schedule.specs.Script.{Script}

-- the line of a node's area, unless the area is 0
abbrev pub area_text : ℕ → ℕ → List ℕ
area_text node area = if area == 0 then [] else line_text (area_words node area)

-- the lines of the areas of the nodes from this one on
abbrev pub areas_text : ℕ → List ℕ → List ℕ
areas_text node [] = []
areas_text node (area ∷ areas) = area_text node area ++ areas_text (node + 1) areas

-- a line for each event
abbrev pub events_text : List Event → List ℕ
events_text [] = []
events_text (event ∷ events) = line_text (event_words event) ++ events_text events

-- the text of a schedule
abbrev pub script_text : Script → List ℕ
script_text s = line_text (header_words s.header.nodes s.header.chain s.header.chunk) ++ areas_text 1 s.header.areas ++ events_text s.events

-- the number of areas that have a line
abbrev pub area_lines : List ℕ → ℕ
area_lines [] = 0
area_lines (area ∷ areas) = if area == 0 then area_lines areas else area_lines areas + 1

abbrev pub IsOfBytes : Event → Type 0
IsOfBytes (Do act) = PublishesBytes act
IsOfBytes (Stop calls image act) = PublishesBytes act
IsOfBytes event = Unit {0}

-- a schedule within its ranges whose text is within the limits
pub record IsPrintable (scale : Scale) (s : Script) : Type 0 where
  pub lawful : IsSchedule scale s
  pub bytes : AllByRecursion IsOfBytes s.events
  pub lines : 1 + area_lines s.header.areas + length s.events ≤ most_of scale Lines
  pub short : length (script_text s) ≤ most_of scale Bytes
