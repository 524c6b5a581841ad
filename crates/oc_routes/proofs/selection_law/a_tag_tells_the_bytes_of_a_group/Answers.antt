use Rattle.oc_routes.proofs.SelectionLaws.{same_bytes}
use Rattle.oc_routes.proofs.selection_law.a_tag_tells_the_bytes_of_a_group.Goals as goal

pub returns : goal.returns
returns c = same_bytes c.a_tag_tells_the_bytes.ensures
