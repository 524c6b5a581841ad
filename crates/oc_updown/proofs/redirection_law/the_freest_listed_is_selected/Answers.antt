use Rattle.oc_updown.proofs.Server.{selected_best, selected_none}
use Rattle.oc_updown.proofs.redirection_law.the_freest_listed_is_selected.Goals as goal

pub returns-clause-some : goal.returns-clause-some
returns-clause-some c = selected_best

pub returns-clause-none : goal.returns-clause-none
returns-clause-none c = selected_none
