use Rattle.oc_select.proofs.Selected.{part_asked, none_asked}
use Rattle.oc_select.proofs.law.a_part_is_the_one_that_is_asked_for.Goals as goal

pub returns-clause-part : goal.returns-clause-part
returns-clause-part c = part_asked

pub returns-clause-none : goal.returns-clause-none
returns-clause-none c = none_asked
