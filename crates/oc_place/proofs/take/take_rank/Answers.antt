use Rattle.std.proofs.Common.{rules, tests}
use Rattle.oc_place.proofs.take.take_rank.Goals as goal

pub returns-in_default : goal.returns-in_default
returns-in_default c = search (tests, rules)
