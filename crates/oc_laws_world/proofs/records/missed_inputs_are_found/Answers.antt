use Rattle.oc_laws_world.proofs.MissedFound.{missed_found, starts_fit, start_still}
use Rattle.oc_laws_world.proofs.records.missed_inputs_are_found.Goals as goal

pub returns-clause-folds : goal.returns-clause-folds
returns-clause-folds c = missed_found

pub returns-clause-alike : goal.returns-clause-alike
returns-clause-alike c = start_still

pub returns-clause-fits : goal.returns-clause-fits
returns-clause-fits c = starts_fit
