use Rattle.std.proofs.Common.{take}
use Rattle.oc_io.specs.Faults.{NoFall}
use Rattle.oc_http.specs.Parts.{joined}
use Rattle.oc_commands.proofs.telling.write_parts.Given as goal

-- the parts so far were taken
abbrev pub invariant-loop-part : goal.invariant-loop-part
invariant-loop-part g l = record {
  taken : g.K.Sink.takes l.fn.sink (joined (take l.part-index l.parts)) l.sink;
  count : NoFall (g.K.Sink.faults l.fn.sink) (g.K.Sink.faults l.sink);
}
