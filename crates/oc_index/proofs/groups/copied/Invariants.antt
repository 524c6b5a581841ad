-- The groups so far, and those that are left.
use Rattle.std.proofs.Common.{◌≡◌, ◌++◌, drop}
use Rattle.oc_index.proofs.groups.copied.Given as goal

abbrev pub invariant-loop-group : goal.invariant-loop-group
invariant-loop-group l = l.copy.items ++ drop l.group-index l.groups ≡ l.groups
