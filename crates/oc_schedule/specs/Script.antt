-- The contents of a schedule, and the numbers counted of it.
use Rattle.std.specs.Prelude.{ℕ, List}
use Rattle.std.specs.List.{sum_by}
use Rattle.oc_schedule.specs.Acts.{bytes_of_act}
use Rattle.oc_model.specs.declared.event.Event.{Event}
use Rattle.oc_model.specs.declared.event.Event.TheVariants.{Do, Stop, Settle, Heal}
use Rattle.oc_model.specs.Node.{Header}

-- the header of the world, and its events in order
pub record Script : Type 0 where
  pub header : Header
  pub events : List Event

-- the bytes that an event publishes, also where a stop cuts it off
abbrev pub published_by : Event → ℕ
published_by (Do act) = bytes_of_act act
published_by (Stop calls image act) = bytes_of_act act
published_by event = 0

-- the bytes that all events publish
abbrev pub published_in : List Event → ℕ
published_in events = sum_by published_by events

-- 1 for an event that settles or heals, 0 for any other
abbrev pub settles_by : Event → ℕ
settles_by Settle = 1
settles_by Heal = 1
settles_by event = 0

-- the number of events that settle or heal
abbrev pub settles_in : List Event → ℕ
settles_in events = sum_by settles_by events
