use Rattle.std.proofs.Common.{rules, tests}
use Rattle.oc_state.proofs.list_update.count.Goals as goal

pub returns-clause-counts : goal.returns-clause-counts
returns-clause-counts c = search (tests, rules)
