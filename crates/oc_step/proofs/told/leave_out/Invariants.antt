use Rattle.std.proofs.Common.{◌≡◌, ◌++◌, drop}
use Rattle.oc_step.specs.Told.{but}
use Rattle.oc_step.proofs.told.leave_out.Given as goal

abbrev pub invariant-loop-child : goal.invariant-loop-child
invariant-loop-child l = l.told.items ++ but l.out (drop l.child-index l.children) ≡ but l.out l.children
