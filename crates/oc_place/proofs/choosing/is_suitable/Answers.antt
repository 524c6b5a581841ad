use Rattle.std.proofs.Common.{arith, rules, tests}
use Rattle.oc_place.proofs.choosing.is_suitable.Goals as goal

pub returns-then-candidate-ne0-2 : goal.returns-then-candidate-ne0-2
returns-then-candidate-ne0-2 c = search (tests, rules, arith)
