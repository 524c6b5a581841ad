use Rattle.oc_model.specs.NextWorld.{world_after}
use Rattle.oc_model.specs.World.{new_world}
use Rattle.oc_laws_tree.proofs.Reached.{reached_after}
use Rattle.oc_laws_rest.proofs.Roots.{asks_nobody, acts_as_root}
use Rattle.oc_laws_rest.proofs.law.least_members_become_roots.Goals as goal

pub returns-clause-asks : goal.returns-clause-asks
returns-clause-asks c h es m r rs p least quiet peer = asks_nobody h (world_after (new_world h) es) (reached_after h es) m least r rs quiet p peer

pub returns-clause-root : goal.returns-clause-root
returns-clause-root c h es m q r rs least quiet room = acts_as_root h (world_after (new_world h) es) (reached_after h es) m least q r rs quiet room
