use Rattle.std.proofs.Common.{rules, tests}
use Rattle.oc_node.proofs.content.grown_line.Goals as goal

pub returns : goal.returns
returns c = search (tests, rules)
