use Rattle.std.proofs.Common.{rules, tests}
use Rattle.oc_node.proofs.acknowledging.checked_in.Goals as goal

-- the news of the child is merged, and then acknowledged
pub returns-in_ok-merge_all : goal.returns-in_ok-merge_all
returns-in_ok-merge_all c = search (tests, rules)
