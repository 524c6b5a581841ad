use Rattle.oc_select.proofs.Selected.{plain}
use Rattle.oc_select.proofs.law.a_plain_request_is_given_all.Goals as goal

pub returns : goal.returns
returns c = plain
