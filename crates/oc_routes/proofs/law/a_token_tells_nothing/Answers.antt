use Rattle.oc_routes.proofs.TokenLaws.{alike_asked}
use Rattle.oc_routes.proofs.law.a_token_tells_nothing.Goals as goal

pub returns : goal.returns
returns c = alike_asked
