use Rattle.std.proofs.Common.{refl}
use Rattle.oc_model.proofs.law.choices_compute.Goals as goal

pub returns-clause-descent : goal.returns-clause-descent
returns-clause-descent c = refl

pub returns-clause-descent_goes_on : goal.returns-clause-descent_goes_on
returns-clause-descent_goes_on c = refl

pub returns-clause-sibling_review : goal.returns-clause-sibling_review
returns-clause-sibling_review c = refl

pub returns-clause-choose_among : goal.returns-clause-choose_among
returns-clause-choose_among c = (refl, refl)

pub returns-clause-certificate_race : goal.returns-clause-certificate_race
returns-clause-certificate_race c = record { told = (refl, refl); death_second = (refl, refl); birth_second = (refl, refl); birth_last = (refl, refl); death_first = (refl, refl); death_before = (refl, refl) }

pub returns-clause-merged_counts : goal.returns-clause-merged_counts
returns-clause-merged_counts c = refl

pub returns-clause-refused_review : goal.returns-clause-refused_review
returns-clause-refused_review c = refl

pub returns-clause-chain_review : goal.returns-clause-chain_review
returns-clause-chain_review c = refl
