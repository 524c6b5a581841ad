-- the filled bytes came from the source
use Rattle.std.proofs.Common.{◌≤◌, ◌-◌, ◌≡◌, length, take}
use Rattle.oc_io.specs.Faults.{NoFall}
use Rattle.oc_client.proofs.filling.fill.Given as goal

abbrev pub invariant-reads : goal.invariant-reads
invariant-reads g l = record {
  came : g.S.Source.gives l.fn.source (take l.done l.buffer) l.source;
  within : l.done ≤ length l.buffer;
  long : length l.buffer ≡ length l.fn.buffer;
  count : NoFall (g.S.Source.faults l.fn.source) (g.S.Source.faults l.source);
}

abbrev pub decreases-reads : goal.decreases-reads
decreases-reads g l = length l.buffer - l.done
