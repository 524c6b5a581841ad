-- The lines so far, and those of the groups that are left.
use Rattle.std.proofs.Common.{◌≡◌, ◌++◌, drop}
use Rattle.oc_base.specs.Groups.{shelf}
use Rattle.oc_index.proofs.groups.lines_of.Given as goal

abbrev pub invariant-loop-group : goal.invariant-loop-group
invariant-loop-group l = l.lines.items ++ shelf (drop l.group-index l.groups) ≡ shelf l.groups
