use Rattle.oc_routes.proofs.SelectionLaws.{part_given, part_within}
use Rattle.oc_routes.proofs.selection_law.a_part_is_those_bytes_of_its_group.Goals as goal

pub returns : goal.returns
returns c = record { within = part_within c.a_part_is_within_its_content.ensures; given = part_given }
