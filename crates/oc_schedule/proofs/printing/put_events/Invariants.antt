-- The lines that were put, and those of the rest, are all lines.
use Rattle.std.proofs.Common.{◌≡◌, ◌++◌, drop}
use Rattle.oc_schedule.specs.Printing.{events_text}
use Rattle.oc_schedule.proofs.printing.put_events.Given as goal

abbrev pub invariant-loop-place : goal.invariant-loop-place
invariant-loop-place l = l.out.items ++ events_text (drop l.place l.events) ≡ l.initial.out.items ++ events_text l.events
