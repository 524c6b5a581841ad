-- the lines so far came from the source, and are no whole head yet
use Rattle.std.proofs.Common.{◌≤◌, ◌-◌, suc, length, vec_len, vec_capacity}
use Rattle.httparse.specs.Grammar.{ReadsRequest}
use Rattle.oc_base.specs.declared.limits.TheConstants.{MAX_HEAD_BYTES}
use Rattle.oc_io.specs.Faults.{NoFall}
use Rattle.oc_http.specs.Unfinished.{IsUnfinished}
use Rattle.oc_http.specs.declared.taking.TheConstants.{FIELD_ROOM}
use Rattle.oc_http.proofs.taking.take_request.Given as goal

abbrev pub invariant-lines : goal.invariant-lines
invariant-lines g l = record {
  came : g.S.Source.gives l.fn.source l.bytes.items l.source;
  unfinished : IsUnfinished ReadsRequest l.bytes.items;
  fits : vec_len l.bytes ≤ MAX_HEAD_BYTES;
  room : MAX_HEAD_BYTES ≤ vec_capacity l.bytes;
  spans : FIELD_ROOM ≤ length l.spans;
  count : NoFall (g.S.Source.faults l.fn.source) (g.S.Source.faults l.source);
}

-- each line adds a byte
abbrev pub decreases-lines : goal.decreases-lines
decreases-lines g l = suc MAX_HEAD_BYTES - vec_len l.bytes
