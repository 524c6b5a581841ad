use Rattle.std.proofs.Common.{rules, tests}
use Rattle.oc_updown.proofs.rows.is_news.Goals as goal

pub returns-in-Some : goal.returns-in-Some
returns-in-Some c = search (tests, rules)
