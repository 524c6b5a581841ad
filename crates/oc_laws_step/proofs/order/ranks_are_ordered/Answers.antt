use Rattle.oc_laws_step.proofs.RankOrder.{precedes_fact, fact_precedes, precedes_irreflexive, precedes_transitive, precedes_total}
use Rattle.oc_laws_step.proofs.order.ranks_are_ordered.Goals as goal

pub returns-clause-decides : goal.returns-clause-decides
returns-clause-decides c = λ a b. (precedes_fact a b, fact_precedes a b)

pub returns-clause-irreflexive : goal.returns-clause-irreflexive
returns-clause-irreflexive c = precedes_irreflexive

pub returns-clause-transitive : goal.returns-clause-transitive
returns-clause-transitive c = precedes_transitive

pub returns-clause-total : goal.returns-clause-total
returns-clause-total c = precedes_total
