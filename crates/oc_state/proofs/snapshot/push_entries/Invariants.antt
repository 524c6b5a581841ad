use Rattle.std.proofs.Common.{◌≡◌, ◌++◌, drop}
use Rattle.oc_model.specs.Snapshot.{entries}
use Rattle.oc_state.proofs.snapshot.push_entries.Given as goal

abbrev pub invariant-loop-cert : goal.invariant-loop-cert
invariant-loop-cert l = l.list.items ++ entries (drop l.cert-index l.certs) ≡ l.initial.list.items ++ entries l.certs
