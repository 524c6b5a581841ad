use Rattle.oc_laws_step.proofs.Merges.{merging_finds, order_and_repeats}
use Rattle.oc_laws_step.proofs.order.merging_finds_the_newest.Goals as goal

pub returns-clause-newest : goal.returns-clause-newest
returns-clause-newest c = merging_finds

pub returns-clause-any_order : goal.returns-clause-any_order
returns-clause-any_order c = order_and_repeats
