-- The effect of a step of a script on a link in memory.
use Rattle.std.specs.Prelude.{◌≡◌, ℕ, ◌+◌, ◌-◌, ◌^◌, min, Bool, true, false, if◌then◌else◌, Option, None, Some, Result, Ok, Err, List, [], drop, slice_get}
use Rattle.oc_io.specs.declared.fault.Failed.{Failed}
use Rattle.oc_link.specs.declared.call.Call.TheVariants as acts
use Rattle.oc_link.specs.declared.call.Call.{Call}
use Rattle.oc_link.specs.declared.event.Arrival.{Arrival}
use Rattle.oc_link.specs.declared.event.Coming.{Coming}
use Rattle.oc_link.specs.declared.event.LinkEvent.{LinkEvent}
use Rattle.oc_link.specs.declared.event.LinkEvent.TheVariants as events
use Rattle.oc_link.specs.declared.look.Look.{Look}
use Rattle.oc_link.specs.declared.look.Look.TheVariants as looks
use Rattle.oc_link.specs.declared.script.Happening.{Happening}
use Rattle.oc_link.specs.declared.script.Happening.TheVariants as happenings
use Rattle.oc_link.specs.declared.script.Step.{Step}
use Rattle.oc_link.specs.declared.phase.Standing.{Standing}
use Rattle.oc_link.specs.Stands.{may, standing_of}
use Rattle.oc_link.specs.Told.{IsMade, Told}

-- the next request of a connection in this state
abbrev pub arrival_of : ℕ → Coming → Standing → Arrival
arrival_of c coming s = record { connection = c; number = s.number; permitted = s.fed; coming = coming }

-- the event that a step asks for after these calls
abbrev pub event_asked : Happening → List Call → LinkEvent
event_asked (happenings.Comes c bytes coming) calls = events.Request (arrival_of c coming (standing_of c calls))
event_asked (happenings.Room c) calls = events.Room c
event_asked (happenings.Gone c loss) calls = events.Gone c loss
event_asked (happenings.Replies d bytes coming) calls = events.Reply d coming
event_asked happenings.Quiet calls = events.Quiet
event_asked happenings.Fails calls = events.Quiet
event_asked (happenings.Looks look) calls = events.Quiet

-- the event of a step: the one that it asks for, if that may come, and else `Quiet`
abbrev pub event_of : Happening → List Call → LinkEvent
event_of h calls = if may (event_asked h calls) calls then event_asked h calls else events.Quiet

-- the bytes in a step
abbrev pub bytes_in : Happening → List ℕ
bytes_in (happenings.Comes c bytes coming) = bytes
bytes_in (happenings.Replies d bytes coming) = bytes
bytes_in h = []

-- the bytes that come by a step, if its event is this one
abbrev pub bytes_of : Happening → LinkEvent → List ℕ
bytes_of h (events.Request a) = bytes_in h
bytes_of h (events.Reply d coming) = bytes_in h
bytes_of h event = []

-- The next step of a script, if there is one

-- whether a step is a failure
abbrev pub is_failure : Happening → Bool
is_failure happenings.Fails = true
is_failure h = false

abbrev pub fails_at : Option Step → Bool
fails_at None = false
fails_at (Some step) = is_failure step.happening

-- the event of the next step after these calls; after the script it is `Quiet`
abbrev pub event_at : Option Step → List Call → LinkEvent
event_at None calls = events.Quiet
event_at (Some step) calls = event_of step.happening calls

-- the bytes that come by the next step
abbrev pub bytes_at : Option Step → LinkEvent → List ℕ
bytes_at None event = []
bytes_at (Some step) event = bytes_of step.happening event

-- the milliseconds that pass by the next step; after the script the whole wait passes
abbrev pub passes_at : Option Step → ℕ → ℕ
passes_at None wait = wait
passes_at (Some step) wait = step.after

-- the event is that of the next step, whose bytes came
pub record IsPlayed (step : Option Step) (event : LinkEvent) (old new : List Call) : Type 0 where
  pub event_is : event ≡ event_at step old
  pub made : IsMade (acts.Next event (bytes_at step event)) old new

-- the answer of `next` at a step
abbrev pub PlaysAs : Result LinkEvent Failed → Option Step → Option (List Call) → Option (List Call) → Type 0
PlaysAs (Ok event) step old new = (fails_at step ≡ false) × Told (IsPlayed step event) old new
PlaysAs (Err failed) step old new = fails_at step ≡ true

-- the clock after a step
abbrev pub time_after : Result LinkEvent Failed → Option Step → ℕ → ℕ → ℕ
time_after (Ok event) step wait time = min (time + passes_at step wait) (2 ^ 64 - 1)
time_after (Err failed) step wait time = time

-- A look

-- what a look gives at a step
abbrev pub look_in : Happening → Look
look_in (happenings.Looks look) = look
look_in h = looks.Nothing

-- what a look gives at the next step; nothing where that is no look, and after the script
abbrev pub look_at : Option Step → Look
look_at None = looks.Nothing
look_at (Some step) = look_in step.happening

abbrev pub is_look : Happening → Bool
is_look (happenings.Looks look) = true
is_look h = false

-- whether the next step is a look
abbrev pub looks_at : Option Step → Bool
looks_at None = false
looks_at (Some step) = is_look step.happening

-- the script after a look, by which the next step is played if it is one
abbrev pub after_look : List Step → List Step
after_look script = if looks_at (slice_get script 0) then drop 1 script else script
