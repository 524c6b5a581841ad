use Rattle.oc_routes.proofs.LocationLaws.{located}
use Rattle.oc_routes.proofs.law.a_location_names_its_group.Goals as goal

pub returns : goal.returns
returns c = located c.a_written_path_is_read.ensures.target
