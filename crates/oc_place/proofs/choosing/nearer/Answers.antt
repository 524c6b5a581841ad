use Rattle.std.proofs.Common.{rules, tests}
use Rattle.oc_place.proofs.choosing.nearer.Goals as goal

pub returns-in-Some : goal.returns-in-Some
returns-in-Some c = search (tests, rules)
