use Rattle.oc_routes.proofs.SelectionLaws.{known_is_named}
use Rattle.oc_routes.proofs.selection_law.a_client_that_is_told_nothing_knows_the_tag.Goals as goal

pub returns : goal.returns
returns c = known_is_named c.what_was_not_modified_is_known.ensures
