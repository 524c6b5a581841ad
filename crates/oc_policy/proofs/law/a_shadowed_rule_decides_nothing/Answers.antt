use Rattle.oc_policy.proofs.Firsts.{never_first}
use Rattle.oc_policy.proofs.law.a_shadowed_rule_decides_nothing.Goals as goal

pub returns : goal.returns
returns c = never_first
