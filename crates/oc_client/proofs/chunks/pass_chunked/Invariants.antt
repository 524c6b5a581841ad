-- The bytes that came led to the stage of the reader; their content was passed on, except for the
-- gathered bytes.
use Rattle.std.proofs.Common.{◌+◌, ◌<◌, ◌≤◌, length}
use Rattle.oc_client.proofs.ChunkSteps.{HasPassed}
use Rattle.oc_client.proofs.chunks.pass_chunked.Given as goal
use Rattle.oc_client.specs.declared.reply_framing.TheConstants.{MAX_OPEN_BYTES}
use Rattle.oc_client.specs.declared.room.TheConstants.{PIECE_BYTES}
use Rattle.oc_io.specs.Faults.{NoFall}

abbrev pub invariant-pieces : goal.invariant-pieces
invariant-pieces g l = record {
  has : HasPassed g.S.Source.gives g.K.Sink.takes l.fn.source l.source l.fn.sink l.sink l.unchunker l.passed l.content.items;
  within : l.passed + length l.content.items ≤ MAX_OPEN_BYTES;
  short : length l.content.items < PIECE_BYTES;
  source_count : NoFall (g.S.Source.faults l.fn.source) (g.S.Source.faults l.source);
  sink_count : NoFall (g.K.Sink.faults l.fn.sink) (g.K.Sink.faults l.sink);
}
