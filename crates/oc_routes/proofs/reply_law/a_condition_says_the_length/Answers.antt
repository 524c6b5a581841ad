use Rattle.oc_routes.proofs.ConditionLaws.{met_is, unmet_is}
use Rattle.oc_routes.proofs.reply_law.a_condition_says_the_length.Goals as goal

pub returns : goal.returns
returns c = record { met = met_is; unmet = unmet_is }
