-- the piece of the line so far came from the source, after the bytes before it
use Rattle.std.proofs.Common.{◌≡◌, ℕ, ◌≤◌, ◌-◌, List, ◌++◌, vec_len, vec_capacity}
use Rattle.oc_base.specs.declared.limits.TheConstants.{MAX_HEAD_BYTES}
use Rattle.oc_io.specs.Faults.{NoFall}
use Rattle.oc_http.specs.Lines.{HasNoLineEnd}
use Rattle.oc_http.proofs.lines.take_line.Given as goal

abbrev pub invariant-bytes : goal.invariant-bytes
invariant-bytes g l = record {
  piece : List ℕ;
  one : HasNoLineEnd piece;
  came : g.S.Source.gives l.fn.source piece l.source;
  grown : l.bytes.items ≡ l.fn.bytes.items ++ piece;
  fits : vec_len l.bytes ≤ MAX_HEAD_BYTES;
  room : MAX_HEAD_BYTES ≤ vec_capacity l.bytes;
  count : NoFall (g.S.Source.faults l.fn.source) (g.S.Source.faults l.source);
}

abbrev pub decreases-bytes : goal.decreases-bytes
decreases-bytes g l = MAX_HEAD_BYTES - vec_len l.bytes
