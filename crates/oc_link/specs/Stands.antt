-- The state of a connection after the calls of a link, and the events that may come then.
use Rattle.std.specs.Prelude.{ℕ, Bool, true, false, ◌==◌, ◌&&◌, ◌||◌, not, if◌then◌else◌, List, [], ◌∷◌}
use Rattle.oc_io.specs.Tally.{counted}
use Rattle.oc_link.specs.declared.call.Call.{Call}
use Rattle.oc_link.specs.declared.call.Call.TheVariants as acts
use Rattle.oc_link.specs.declared.call.Ending.{Ending}
use Rattle.oc_link.specs.declared.event.LinkEvent.{LinkEvent}
use Rattle.oc_link.specs.declared.event.LinkEvent.TheVariants as events
use Rattle.oc_link.specs.declared.phase.Phase.{Phase}
use Rattle.oc_link.specs.declared.phase.Phase.TheVariants as phases
use Rattle.oc_link.specs.declared.phase.Standing.{Standing}
use Rattle.oc_link.specs.Dials.{is_dialling}

-- a new connection, whose first request is awaited
abbrev pub untouched : Standing
untouched = record { phase = phases.Awaiting; number = 1; fed = false; watched = false }

-- the state after an event that tells of room: no bytes were given since
abbrev pub after_room : Standing → Standing
after_room s = record s { fed = false }

-- the state after the connection was lost before its reply was sent in full
abbrev pub after_loss : Standing → Standing
after_loss s = record s { phase = phases.Gone; watched = false }

-- the state of the connection c after an event
abbrev pub sees : ℕ → LinkEvent → Standing → Standing
sees c (events.Request a) s = s
sees c (events.Room d) s = if d == c then after_room s else s
sees c (events.Gone d loss) s = if d == c then after_loss s else s
sees c (events.Reply d coming) s = s
sees c events.Quiet s = s

-- the state after the request was taken
abbrev pub after_take : Standing → Standing
after_take s = record s { phase = phases.Answering; fed = false }

-- the state after bytes were given
abbrev pub after_give : Standing → Standing
after_give s = record s { fed = true }

-- the state after the reply was given in full; a connection that was watched stays so, since bytes of a reply before may not have been sent yet
abbrev pub after_finish : Ending → Standing → Standing
after_finish e s = record {
  phase = if e.keeps then phases.Awaiting else phases.Whole;
  number = if e.keeps then counted s.number else s.number;
  fed = false;
  watched = e.watched || s.watched;
}

-- the state after the connection was broken off
abbrev pub after_break : Standing → Standing
after_break s = record s { phase = phases.Broken; watched = false }

-- the state of the connection c after one more call
abbrev pub stands : ℕ → Call → Standing → Standing
stands c (acts.Listen address) s = s
stands c (acts.Next e bytes) s = sees c e s
stands c (acts.Now n) s = s
stands c (acts.Millis n) s = s
stands c (acts.Take d count) s = if d == c then after_take s else s
stands c (acts.Give d bytes) s = if d == c then after_give s else s
stands c (acts.Finish d e) s = if d == c then after_finish e s else s
stands c (acts.BreakOff d) s = if d == c then after_break s else s
stands c (acts.Dial d address bytes) s = s
stands c (acts.Look look) s = s
stands c (acts.Report line) s = s

-- the state of the connection c after these calls
abbrev pub stands_after : ℕ → List Call → Standing → Standing
stands_after c [] s = s
stands_after c (call ∷ calls) s = stands_after c calls (stands c call s)

-- the state of the connection c, by all calls of its link
abbrev pub standing_of : ℕ → List Call → Standing
standing_of c calls = stands_after c calls untouched

-- whether the next request is awaited
abbrev pub is_awaiting : Phase → Bool
is_awaiting phases.Awaiting = true
is_awaiting phase = false

-- whether a reply is under way
abbrev pub is_answering : Phase → Bool
is_answering phases.Answering = true
is_answering phase = false

-- The events that may come on a connection in this state: a request, if it is awaited; room, if a reply is under way and bytes were
-- given since there was room last; a loss, if a reply is under way or the connection is watched.
abbrev pub may_request : ℕ → Bool → Standing → Bool
may_request number permitted s = is_awaiting s.phase && (number == s.number) && (if permitted then s.fed else not s.fed)

abbrev pub may_want : Standing → Bool
may_want s = is_answering s.phase && s.fed

abbrev pub may_go : Standing → Bool
may_go s = is_answering s.phase || s.watched

-- whether the event may come after these calls
abbrev pub may : LinkEvent → List Call → Bool
may (events.Request a) calls = may_request a.number a.permitted (standing_of a.connection calls)
may (events.Room c) calls = may_want (standing_of c calls)
may (events.Gone c loss) calls = may_go (standing_of c calls)
may (events.Reply d coming) calls = is_dialling d calls
may events.Quiet calls = true
