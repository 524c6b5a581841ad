use Rattle.std.proofs.Common.{◌≡◌, ◌++◌, drop}
use Rattle.oc_link.specs.Traffic.{given}
use Rattle.oc_link.proofs.history.given.Given as goal

abbrev pub invariant-loop-call : goal.invariant-loop-call
invariant-loop-call l = l.bytes.items ++ given l.connection (drop l.call-index l.calls) ≡ given l.connection l.calls
