-- The bytes that came on a connection and those that it was given, by the calls of a link.
use Rattle.std.specs.Prelude.{ℕ, ◌+◌, ◌==◌, if◌then◌else◌, List, [], ◌∷◌, ◌++◌, take, drop}
use Rattle.oc_link.specs.declared.call.Call.{Call}
use Rattle.oc_link.specs.declared.call.Call.TheVariants as acts
use Rattle.oc_link.specs.declared.event.LinkEvent.{LinkEvent}
use Rattle.oc_link.specs.declared.event.LinkEvent.TheVariants as events

-- the bytes that came on the connection c by an event
abbrev pub came_by : ℕ → LinkEvent → List ℕ → List ℕ
came_by c (events.Request a) bytes = if a.connection == c then bytes else []
came_by c event bytes = []

-- the bytes that came on the connection c by a call
abbrev pub came_on : ℕ → Call → List ℕ
came_on c (acts.Next event bytes) = came_by c event bytes
came_on c call = []

-- all bytes that came on the connection c
abbrev pub read : ℕ → List Call → List ℕ
read c [] = []
read c (call ∷ calls) = came_on c call ++ read c calls

-- the number of bytes that a call took from the connection c
abbrev pub taken_by : ℕ → Call → ℕ
taken_by c (acts.Take d count) = if d == c then count else 0
taken_by c call = 0

-- the number of bytes that were taken as requests
abbrev pub taken : ℕ → List Call → ℕ
taken c [] = 0
taken c (call ∷ calls) = taken_by c call + taken c calls

-- the bytes of the requests that were taken
abbrev pub asked : ℕ → List Call → List ℕ
asked c calls = take (taken c calls) (read c calls)

-- the bytes that came and were not taken yet
abbrev pub held : ℕ → List Call → List ℕ
held c calls = drop (taken c calls) (read c calls)

-- the bytes that a call gave the connection c
abbrev pub given_by : ℕ → Call → List ℕ
given_by c (acts.Give d bytes) = if d == c then bytes else []
given_by c call = []

-- all bytes that the connection c was given to send
abbrev pub given : ℕ → List Call → List ℕ
given c [] = []
given c (call ∷ calls) = given_by c call ++ given c calls
