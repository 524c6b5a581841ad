use Rattle.std.proofs.Common.{◌≡◌, ◌++◌, drop}
use Rattle.oc_model.specs.Looking.{candidates}
use Rattle.oc_node.proofs.looking.candidates.Given as goal

abbrev pub invariant-loop-child : goal.invariant-loop-child
invariant-loop-child l = l.list.items ++ candidates l.step.plan.node (drop l.child-index l.children) ≡ candidates l.step.plan.node l.children
