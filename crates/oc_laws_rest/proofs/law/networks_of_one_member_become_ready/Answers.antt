use Rattle.oc_model.specs.NextWorld.{world_after}
use Rattle.oc_model.specs.World.{new_world}
use Rattle.oc_laws_tree.proofs.Reached.{reached_after}
use Rattle.oc_laws_rest.proofs.Readies.{becomes_ready}
use Rattle.oc_laws_rest.proofs.law.networks_of_one_member_become_ready.Goals as goal

pub returns : goal.returns
returns w h es m q r rs a b c d only measured quiet room = becomes_ready h (world_after (new_world h) es) (reached_after h es) m only measured q r rs a b c d quiet room
