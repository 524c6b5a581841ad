use Rattle.oc_place.proofs.Chosen.{chosen_is_best, none_is_suitable}
use Rattle.oc_place.proofs.law.the_nearest_suitable_is_chosen.Goals as goal

pub returns-clause-some : goal.returns-clause-some
returns-clause-some c = chosen_is_best

pub returns-clause-none : goal.returns-clause-none
returns-clause-none c = none_is_suitable
