use Rattle.oc_state.proofs.Folding.{folds_on}
use Rattle.oc_state.proofs.durable.Durable.fold_all.Goals as goal

pub loop-change-preserved : goal.loop-change-preserved
loop-change-preserved c = folds_on c.args.self.now c.loop-change.self c.fold.new.self c.args.changes.items _ c.in-Some.change _ c.in-Some.ensures.steps.0 c.fold.ensures c.loop-change.invariant
