-- The lines that were put, and those of the rest, are all lines.
use Rattle.std.proofs.Common.{◌≡◌, ◌+◌, ◌++◌, drop}
use Rattle.oc_schedule.specs.Printing.{areas_text}
use Rattle.oc_schedule.proofs.printing.put_areas.Given as goal

abbrev pub invariant-loop-index : goal.invariant-loop-index
invariant-loop-index l = l.out.items ++ areas_text (l.index + 1) (drop l.index l.areas) ≡ l.initial.out.items ++ areas_text 1 l.areas
