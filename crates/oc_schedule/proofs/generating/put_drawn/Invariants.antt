-- The events that were put, and those of the draws from here on, are all events.
use Rattle.std.proofs.Common.{◌≡◌, ◌+◌, ◌-◌, ◌++◌}
use Rattle.oc_schedule.specs.Generator.{events_from}
use Rattle.oc_schedule.proofs.generating.put_drawn.Given as goal

abbrev pub invariant-loop-number : goal.invariant-loop-number
invariant-loop-number l =
    l.events ++ events_from l.draws.state l.nodes l.number 0 (l.last + 1 - l.number)
    ≡ l.initial.events ++ events_from l.fn.draws.state l.nodes (l.nodes + 1) 0 (l.last - l.nodes)
