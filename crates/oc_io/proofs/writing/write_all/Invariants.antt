-- A prefix of the bytes was taken.
use Rattle.std.proofs.Common.{◌≤◌, ◌+◌, ◌-◌, length, take}
use Rattle.oc_io.specs.Faults.{NoFall}
use Rattle.oc_io.proofs.writing.write_all.Given as goal

abbrev pub invariant-loop-done : goal.invariant-loop-done
invariant-loop-done g l = record {
  taken : g.K.Sink.takes l.fn.sink (take l.done l.bytes) l.sink;
  within : l.done ≤ length l.bytes;
  calls : g.K.Sink.calls l.sink ≤ g.K.Sink.calls l.fn.sink + l.done;
  count : NoFall (g.K.Sink.faults l.fn.sink) (g.K.Sink.faults l.sink);
}

abbrev pub decreases-loop-done : goal.decreases-loop-done
decreases-loop-done g l = length l.bytes - l.done
