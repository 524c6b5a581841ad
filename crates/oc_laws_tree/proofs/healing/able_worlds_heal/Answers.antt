use Rattle.oc_laws_tree.specs.Healing.{HealHeals}
use Rattle.oc_laws_tree.proofs.Heals.{heal_heals}
use Rattle.oc_laws_tree.proofs.Reached.{within_limits}
use Rattle.oc_laws_tree.proofs.healing.able_worlds_heal.Goals as goal

pub returns : goal.returns
returns c = within_limits HealHeals heal_heals
