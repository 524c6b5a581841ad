-- The lines so far and those to come are all.
use Rattle.std.proofs.Common.{◌≡◌, ◌++◌, drop}
use Rattle.oc_deeds.specs.Brief.{lost_lines}
use Rattle.oc_deeds.proofs.brief.put_lost.Given as goal

abbrev pub invariant-loop-child : goal.invariant-loop-child
invariant-loop-child l = l.out.items ++ lost_lines l.node.control (drop l.child-index l.children) ≡ l.fn.out.items ++ lost_lines l.node.control l.children
