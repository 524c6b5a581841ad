-- The nodes sorted so far, and those of the shorter lengths, are all nodes.
use Rattle.std.proofs.Common.{◌≡◌, ◌++◌, length}
use Rattle.oc_calm.specs.Longest.{longest_first}
use Rattle.oc_calm.proofs.settling.sorted_by_length.Given as goal

abbrev pub invariant-levels : goal.invariant-levels
invariant-levels l = l.sorted.items ++ longest_first l.lengths l.nodes l.length ≡ longest_first l.lengths l.nodes (length l.lengths)

abbrev pub decreases-levels : goal.decreases-levels
decreases-levels l = l.length
