use Rattle.std.proofs.Common.{◌≡◌, ◌+◌, ◌++◌, drop}
use Rattle.oc_model.specs.Snapshot.{rates_from}
use Rattle.oc_state.proofs.snapshot.push_rates.Given as goal

abbrev pub invariant-loop-before : goal.invariant-loop-before
invariant-loop-before l = l.list.items ++ rates_from (l.before + 1) (drop l.before l.measures.readings) ≡ l.initial.list.items ++ rates_from 1 l.measures.readings
