use Rattle.oc_model.specs.NextWorld.{world_after}
use Rattle.oc_model.specs.World.{new_world}
use Rattle.oc_laws_tree.proofs.Reached.{reached_after}
use Rattle.oc_laws_rest.proofs.Hushes.{child_forgets}
use Rattle.oc_laws_rest.proofs.law.children_forget_the_down.Goals as goal

pub returns : goal.returns
returns w h es q r rs a b c x p quiet plain up joined = child_forgets h (world_after (new_world h) es) (reached_after h es) q r rs a b c x p quiet plain up joined
