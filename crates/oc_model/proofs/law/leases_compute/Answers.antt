use Rattle.std.proofs.Common.{refl}
use Rattle.oc_model.proofs.law.leases_compute.Goals as goal

pub returns-clause-false_death : goal.returns-clause-false_death
returns-clause-false_death c = refl

pub returns-clause-quash : goal.returns-clause-quash
returns-clause-quash c = refl

pub returns-clause-failed_parent : goal.returns-clause-failed_parent
returns-clause-failed_parent c = refl

pub returns-clause-early_check_in : goal.returns-clause-early_check_in
returns-clause-early_check_in c = refl
