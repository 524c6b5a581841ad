-- the bytes that are filled came from the source
use Rattle.std.proofs.Common.{◌≡◌, ◌≤◌, ◌-◌, take, vec_len}
use Rattle.oc_io.specs.Faults.{NoFall}
use Rattle.oc_http.proofs.body.take_body.Given as goal

abbrev pub invariant-pieces : goal.invariant-pieces
invariant-pieces g l = record {
  came : g.S.Source.gives l.fn.source (take l.done l.body.items) l.source;
  within : l.done ≤ vec_len l.body;
  long : vec_len l.body ≡ l.length;
  count : NoFall (g.S.Source.faults l.fn.source) (g.S.Source.faults l.source);
}

abbrev pub decreases-pieces : goal.decreases-pieces
decreases-pieces g l = vec_len l.body - l.done
