use Rattle.std.specs.Vec.Iter.{into_iter_items}
use Rattle.oc_state.proofs.Folding.{FoldsOn}
use Rattle.oc_state.proofs.durable.Durable.fold_all.Given as goal

abbrev pub invariant-loop-change : goal.invariant-loop-change
invariant-loop-change l = FoldsOn l.initial.self l.self l.fn.changes.items (into_iter_items l.change-iterator)
