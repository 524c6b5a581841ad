use Rattle.std.proofs.Common.{reverse, vec_len}
use Rattle.oc_keep.proofs.Runs.{IsSoFar}
use Rattle.oc_keep.proofs.trials.run.Given as goal

-- the inputs taken so far, and those that are left, the last of them first
abbrev pub invariant-loop-input : goal.invariant-loop-input
invariant-loop-input g l = record {
  far : IsSoFar g.D.Disk.view l.fn.kept l.kept l.fn.inputs.items (reverse l.inputs.items) l.done;
}

abbrev pub decreases-loop-input : goal.decreases-loop-input
decreases-loop-input g l = vec_len l.inputs
