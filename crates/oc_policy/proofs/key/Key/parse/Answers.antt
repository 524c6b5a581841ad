use Rattle.oc_policy.proofs.Spelled.{spells_a_key}
use Rattle.oc_policy.proofs.key.Key.parse.Goals as goal

pub returns-clause-spelled : goal.returns-clause-spelled
returns-clause-spelled c = rw c.spelled.ensures (spells_a_key c.args.text.now)
