use Rattle.std.proofs.Common.{rules, tests}
use Rattle.oc_state.proofs.list_update.update_one.Goals as goal

pub returns-in-Renew-clause-leases : goal.returns-in-Renew-clause-leases
returns-in-Renew-clause-leases c = search (tests, rules)

pub returns-in-Renew-clause-rates : goal.returns-in-Renew-clause-rates
returns-in-Renew-clause-rates c = search (tests, rules)
