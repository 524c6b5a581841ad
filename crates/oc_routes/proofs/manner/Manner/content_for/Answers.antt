use Rattle.std.proofs.Common.{sym, ap}
use Rattle.oc_routes.specs.Manners.{content_for}
use Rattle.oc_routes.proofs.manner.Manner.content_for.Goals as goal

pub returns-in-HeadAlone : goal.returns-in-HeadAlone
returns-in-HeadAlone g c = sym (ap (λ manner. content_for manner c.args.content) c.in-HeadAlone.is)
