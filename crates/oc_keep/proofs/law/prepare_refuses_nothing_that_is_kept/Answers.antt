use Rattle.oc_keep.proofs.Limits.{keeps_fit, kept_is}
use Rattle.oc_keep.proofs.Wants.{wants_few, wants_held}
use Rattle.oc_keep.proofs.law.prepare_refuses_nothing_that_is_kept.Goals as goal

pub returns-clause-keeps : goal.returns-clause-keeps
returns-clause-keeps c = keeps_fit

pub returns-clause-entry : goal.returns-clause-entry
returns-clause-entry c = kept_is

pub returns-clause-wants : goal.returns-clause-wants
returns-clause-wants c = wants_held

pub returns-clause-few : goal.returns-clause-few
returns-clause-few c = wants_few
