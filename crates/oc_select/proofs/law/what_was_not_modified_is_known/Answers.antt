use Rattle.oc_select.proofs.Selected.{not_modified}
use Rattle.oc_select.proofs.law.what_was_not_modified_is_known.Goals as goal

pub returns : goal.returns
returns c = not_modified
