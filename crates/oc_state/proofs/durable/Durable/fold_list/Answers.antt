use Rattle.oc_state.proofs.Folding.{list_on}
use Rattle.oc_state.proofs.durable.Durable.fold_list.Goals as goal

pub loop-change-preserved : goal.loop-change-preserved
loop-change-preserved c = list_on c.args.self.now c.loop-change.self c.fold_copy.new.self c.args.list.now c.loop-change.change-index c.change-item.result c.loop-change-test.true c.change-item.is c.in_ok-fold_copy.ensures.kept c.fold_copy.ensures.nodes c.fold_copy.ensures.stays c.loop-change.invariant
