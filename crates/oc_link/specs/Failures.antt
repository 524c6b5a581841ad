-- The events that tell of a failure.
use Rattle.std.specs.Prelude.{◌≡◌, ℕ, Bool, true, false}
use Rattle.oc_io.specs.Faults.{Rose}
use Rattle.oc_link.specs.declared.event.Coming.{Coming}
use Rattle.oc_link.specs.declared.event.Coming.TheVariants as comings
use Rattle.oc_link.specs.declared.event.LinkEvent.{LinkEvent}
use Rattle.oc_link.specs.declared.event.LinkEvent.TheVariants as events
use Rattle.oc_link.specs.declared.event.Loss.{Loss}
use Rattle.oc_link.specs.declared.event.Loss.TheVariants as losses

-- whether the bytes that came ended by a failure
abbrev pub has_failed : Coming → Bool
has_failed comings.Failed = true
has_failed coming = false

-- whether a connection was lost by a failure
abbrev pub is_failure : Loss → Bool
is_failure losses.Failed = true
is_failure losses.GaveWay = false

-- whether an event tells that a request could not be read
abbrev pub fails_reading : LinkEvent → Bool
fails_reading (events.Request a) = has_failed a.coming
fails_reading event = false

-- whether an event tells that a reply could not be sent
abbrev pub fails_writing : LinkEvent → Bool
fails_writing (events.Gone c loss) = is_failure loss
fails_writing event = false

-- whether an event tells that a dial failed
abbrev pub fails_dialling : LinkEvent → Bool
fails_dialling (events.Reply d coming) = has_failed coming
fails_dialling event = false

-- a count rises exactly at a failure
abbrev pub RisesAt : Bool → ℕ → ℕ → Type 0
RisesAt true old new = Rose old new
RisesAt false old new = new ≡ old
