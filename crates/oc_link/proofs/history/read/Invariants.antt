use Rattle.std.proofs.Common.{◌≡◌, ◌++◌, drop}
use Rattle.oc_link.specs.Traffic.{read}
use Rattle.oc_link.proofs.history.read.Given as goal

abbrev pub invariant-loop-call : goal.invariant-loop-call
invariant-loop-call l = l.bytes.items ++ read l.connection (drop l.call-index l.calls) ≡ read l.connection l.calls
