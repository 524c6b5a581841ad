use Rattle.oc_laws_tree.proofs.Counted.{five_most}
use Rattle.oc_laws_tree.proofs.Reached.{at_reached}
use Rattle.oc_laws_tree.proofs.Settles.{settle_takes}
use Rattle.oc_laws_tree.specs.Settling.{SettleTakes, FiveStepsTakeFew}
use Rattle.oc_laws_tree.proofs.settling.settle_takes_few_acts.Goals as goal

pub returns-clause-number : goal.returns-clause-number
returns-clause-number c = at_reached SettleTakes settle_takes

pub returns-clause-five_steps : goal.returns-clause-five_steps
returns-clause-five_steps c = at_reached FiveStepsTakeFew five_most
