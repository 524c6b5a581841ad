use Rattle.std.proofs.Common.{refl}
use Rattle.oc_routes.specs.Page.{page_text}
use Rattle.oc_routes.proofs.routes.page.page.Goals as goal

pub returns : goal.returns
unfolding page_text
returns c = refl
