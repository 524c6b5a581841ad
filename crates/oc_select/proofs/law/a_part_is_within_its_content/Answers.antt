use Rattle.oc_select.proofs.Selected.{part_within}
use Rattle.oc_select.proofs.law.a_part_is_within_its_content.Goals as goal

pub returns : goal.returns
returns c = part_within
