use Rattle.oc_routes.proofs.PlainNames.{name_is_plain}
use Rattle.oc_routes.proofs.status_law.names_are_plain.Goals as goal

pub returns : goal.returns
returns c = name_is_plain
