use Rattle.std.proofs.Common.{rules, tests}
use Rattle.oc_updown.proofs.preference.Preference.is_near.Goals as goal

pub returns : goal.returns
returns c = search (tests, rules)
