use Rattle.oc_select.proofs.Given.{date_back, tag_back}
use Rattle.oc_select.proofs.law.what_was_given_is_known.Goals as goal

pub returns-clause-tag : goal.returns-clause-tag
returns-clause-tag c = tag_back

pub returns-clause-date : goal.returns-clause-date
returns-clause-date c = date_back
