-- The events of a schedule as they are kept.
use Rattle.std.specs.Prelude.{List, map}
use Rattle.oc_model.specs.declared.event.Act.TheVariants.{At}
use Rattle.oc_model.specs.declared.event.Act.TheVariants as acts
use Rattle.oc_model.specs.declared.event.Event.{Event}
use Rattle.oc_model.specs.declared.event.Event.TheVariants as events
use Rattle.oc_model.specs.declared.input.Input.TheVariants as inputs
use Rattle.oc_schedule.specs.declared.listed_event.ListedEvent.{ListedEvent}
use Rattle.oc_schedule.specs.declared.listed_event.ListedEvent.TheVariants.{Made, Lent}
use Rattle.oc_schedule.specs.declared.kept_event.KeptEvent.{KeptEvent}
use Rattle.oc_schedule.specs.declared.kept_event.KeptEvent.TheVariants.{Up, Crash, Tick, Deliver, Other}

-- the event of its kept form
abbrev pub event_of : KeptEvent → Event
event_of (Up node) = events.Up node
event_of (Crash node) = events.Crash node
event_of (Tick node now) = events.Do (At node (inputs.Tick now))
event_of (Deliver number) = events.Do (acts.Deliver number)
event_of (Other event) = event.value

-- the events of their kept forms
abbrev pub events_of : List KeptEvent → List Event
events_of kept = map event_of kept

-- the event of a list, made for the caller or lent
abbrev pub listed : ListedEvent → Event
listed (Made event) = event
listed (Lent event) = event.now
