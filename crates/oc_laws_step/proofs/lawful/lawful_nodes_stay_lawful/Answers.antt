use Rattle.oc_laws_step.proofs.LawfulSteps.{lawful_stepped, lawful_fits, lawful_new, lawful_restarted, lawful_folded, lawful_started}
use Rattle.oc_laws_step.proofs.lawful.lawful_nodes_stay_lawful.Goals as goal

pub returns-clause-step : goal.returns-clause-step
returns-clause-step c = lawful_stepped

pub returns-clause-frame : goal.returns-clause-frame
returns-clause-frame c = lawful_fits

pub returns-clause-new : goal.returns-clause-new
returns-clause-new c = lawful_new

pub returns-clause-start : goal.returns-clause-start
returns-clause-start c = lawful_restarted

pub returns-clause-folds : goal.returns-clause-folds
returns-clause-folds c = lawful_folded

pub returns-clause-recovery : goal.returns-clause-recovery
returns-clause-recovery c = lawful_started
