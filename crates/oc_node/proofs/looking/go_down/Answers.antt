use Rattle.std.proofs.Common.{rules, tests}
use Rattle.oc_node.proofs.looking.go_down.Goals as goal

pub returns-in-Some : goal.returns-in-Some
returns-in-Some c = search (tests, rules)
