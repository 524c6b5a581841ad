use Rattle.std.proofs.Common.{rules, tests}
use Rattle.oc_place.proofs.reviewing.review.Goals as goal

pub returns-in-Some-choose : goal.returns-in-Some-choose
returns-in-Some-choose c = search (tests, rules)
