use Rattle.std.proofs.Common.{refl}
use Rattle.oc_model.proofs.law.roots_compute.Goals as goal

pub returns-clause-takeover_and_return : goal.returns-clause-takeover_and_return
returns-clause-takeover_and_return c = refl

pub returns-clause-heal : goal.returns-clause-heal
returns-clause-heal c = refl

pub returns-clause-heal_without_a_chain_member : goal.returns-clause-heal_without_a_chain_member
returns-clause-heal_without_a_chain_member c = refl
