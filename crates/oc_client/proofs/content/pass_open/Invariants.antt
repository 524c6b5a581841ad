-- The bytes that were moved are this number.
use Rattle.std.proofs.Common.{◌≤◌, ◌-◌}
use Rattle.oc_client.proofs.content.pass_open.Given as goal
use Rattle.oc_client.specs.Passing.{IsMoved}
use Rattle.oc_client.specs.declared.reply_framing.TheConstants.{MAX_OPEN_BYTES}
use Rattle.oc_io.specs.Faults.{NoFall}

abbrev pub invariant-pieces : goal.invariant-pieces
invariant-pieces g l = record {
  moved : IsMoved g.S.Source.gives g.K.Sink.takes l.fn.source l.source l.fn.sink l.sink l.moved_bytes;
  within : l.moved_bytes ≤ MAX_OPEN_BYTES;
  source_count : NoFall (g.S.Source.faults l.fn.source) (g.S.Source.faults l.source);
  sink_count : NoFall (g.K.Sink.faults l.fn.sink) (g.K.Sink.faults l.sink);
}

abbrev pub decreases-pieces : goal.decreases-pieces
decreases-pieces g l = MAX_OPEN_BYTES - l.moved_bytes
