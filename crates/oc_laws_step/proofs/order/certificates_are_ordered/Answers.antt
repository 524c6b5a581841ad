use Rattle.oc_laws_step.proofs.CertOrder.{outranks_fact, fact_outranks, outranks_irreflexive, outranks_transitive, outranks_total}
use Rattle.oc_laws_step.proofs.order.certificates_are_ordered.Goals as goal

pub returns-clause-decides : goal.returns-clause-decides
returns-clause-decides c = λ k f. (outranks_fact k f, fact_outranks k f)

pub returns-clause-irreflexive : goal.returns-clause-irreflexive
returns-clause-irreflexive c = outranks_irreflexive

pub returns-clause-transitive : goal.returns-clause-transitive
returns-clause-transitive c = outranks_transitive

pub returns-clause-total : goal.returns-clause-total
returns-clause-total c = outranks_total
