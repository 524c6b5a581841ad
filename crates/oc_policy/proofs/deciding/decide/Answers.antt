use Rattle.std.proofs.Common.{◌∙◌, ap, sym}
use Rattle.oc_policy.specs.Rules.{verdict_at}
use Rattle.oc_policy.proofs.deciding.decide.Goals as goal

pub returns-in-None : goal.returns-in-None
returns-in-None c = ap (verdict_at c.args.rules.now) (sym c.in-None.is ∙ c.first_match.ensures)
