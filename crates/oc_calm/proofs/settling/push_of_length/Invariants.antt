-- The nodes so far, and those that the rest will add, are all nodes of that length.
use Rattle.std.proofs.Common.{◌≡◌, ◌++◌, filter, length, drop}
use Rattle.std.specs.List.{AllByRecursion}
use Rattle.oc_base.specs.Lawful.{IsNode}
use Rattle.oc_calm.specs.Longest.{has_found}
use Rattle.oc_calm.proofs.settling.push_of_length.Given as goal

abbrev pub invariant-loop-node : goal.invariant-loop-node
invariant-loop-node l = record {
  put : l.sorted.items ++ filter (has_found l.lengths l.wanted) (drop l.node-index l.nodes) ≡ l.fn.sorted.items ++ filter (has_found l.lengths l.wanted) l.nodes;
  nodes : AllByRecursion (IsNode (length l.lengths)) (drop l.node-index l.nodes);
}
