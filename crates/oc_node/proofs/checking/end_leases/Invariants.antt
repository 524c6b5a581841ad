use Rattle.std.proofs.Common.{◌≡◌, length}
use Rattle.oc_model.specs.Checking.{ends_each, ends_leases}
use Rattle.oc_node.proofs.Ending.{ended_past}
use Rattle.oc_node.proofs.checking.end_leases.Given as goal

abbrev pub invariant-loop-child : goal.invariant-loop-child
invariant-loop-child l = (l.step.base ≡ l.initial.step.base) × (ends_each (ended_past l.step.base l.now l.after) l.step.plan ≡ ends_leases l.initial.step.plan)

abbrev pub decreases-loop-child : goal.decreases-loop-child
decreases-loop-child l = length (ended_past l.step.base l.now l.after)
