use Rattle.std.proofs.Common.{drop}
use Rattle.oc_state.proofs.Folding.{FoldsList}
use Rattle.oc_state.proofs.durable.Durable.fold_list.Given as goal

abbrev pub invariant-loop-change : goal.invariant-loop-change
invariant-loop-change l = FoldsList l.initial.self l.self l.list (drop l.change-index l.list) l.change-index
