use Rattle.oc_model.specs.NextWorld.{world_after}
use Rattle.oc_model.specs.World.{new_world}
use Rattle.oc_laws_tree.proofs.Reached.{reached_after}
use Rattle.oc_laws_rest.proofs.Forgets.{root_forgets}
use Rattle.oc_laws_rest.proofs.law.roots_forget_the_down.Goals as goal

pub returns-clause-up : goal.returns-clause-up
returns-clause-up w h es m q rs a b c least quiet root = (root_forgets h (world_after (new_world h) es) (reached_after h es) m least q rs a b c quiet root).up

pub returns-clause-itself : goal.returns-clause-itself
returns-clause-itself w h es m q rs a b c s least quiet root leased = (root_forgets h (world_after (new_world h) es) (reached_after h es) m least q rs a b c quiet root).other s leased
