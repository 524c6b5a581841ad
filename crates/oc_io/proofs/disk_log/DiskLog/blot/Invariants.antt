use Rattle.std.proofs.Common.{◌≡◌, length, reverse, vec_len}
use Rattle.oc_io.proofs.LogBlots.{blotted_by, AreWithin}
use Rattle.oc_io.proofs.disk_log.DiskLog.blot.Given as goal

-- the remaining steps turn these bytes into those that all steps make of the first bytes
abbrev pub invariant-loop-step : goal.invariant-loop-step
invariant-loop-step l = record {
  rest : blotted_by l.image (reverse l.steps.items) l.bytes ≡ blotted_by l.image (reverse l.initial.steps.items) l.fn.bytes;
  within : AreWithin (length l.bytes) (reverse l.steps.items);
}

abbrev pub decreases-loop-step : goal.decreases-loop-step
decreases-loop-step l = vec_len l.steps
