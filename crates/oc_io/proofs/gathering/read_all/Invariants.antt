-- The bytes so far are those that the source gave, and are within the limit.
use Rattle.std.proofs.Common.{◌<◌, ◌≤◌, ◌+◌, suc, ◌-◌, vec_len}
use Rattle.oc_io.specs.Faults.{NoFall}
use Rattle.oc_io.proofs.gathering.read_all.Given as goal

abbrev pub invariant-loop-buffer : goal.invariant-loop-buffer
invariant-loop-buffer g l = record {
  came : g.S.Source.gives l.fn.source l.bytes.items l.source;
  within : vec_len l.bytes ≤ l.most;
  room : 0 < vec_len l.buffer;
  calls : g.S.Source.calls l.source ≤ g.S.Source.calls l.fn.source + vec_len l.bytes;
  count : NoFall (g.S.Source.faults l.fn.source) (g.S.Source.faults l.source);
}

-- each turn that goes on adds a byte, and one more than the most is never kept
abbrev pub decreases-loop-buffer : goal.decreases-loop-buffer
decreases-loop-buffer g l = suc l.most - vec_len l.bytes
