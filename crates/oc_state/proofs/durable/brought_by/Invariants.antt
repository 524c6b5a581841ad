use Rattle.std.proofs.Common.{◌≡◌, ◌+◌, ◌≤◌, drop}
use Rattle.oc_state.specs.DurableView.{brought_by}
use Rattle.oc_state.proofs.durable.brought_by.Given as goal

abbrev pub invariant-loop-change : goal.invariant-loop-change
invariant-loop-change l = (l.count + brought_by (drop l.change-index l.changes) ≡ brought_by l.changes) × (l.count ≤ l.change-index)
