-- The nodes so far, and those that the rest will add, are all nodes of the result.
use Rattle.std.proofs.Common.{◌≡◌, ◌++◌, filter, drop, nat_lt}
use Rattle.oc_calm.proofs.joining.past.Given as goal

abbrev pub invariant-loop-node : goal.invariant-loop-node
invariant-loop-node l = l.past.items ++ filter (nat_lt l.number) (drop l.node-index l.nodes) ≡ filter (nat_lt l.number) l.nodes
