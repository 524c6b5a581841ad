use Rattle.oc_model.specs.NextWorld.{world_after}
use Rattle.oc_model.specs.World.{new_world}
use Rattle.oc_laws_tree.proofs.Reached.{reached_after}
use Rattle.oc_laws_rest.proofs.Readies.{stays_ready}
use Rattle.oc_laws_rest.proofs.law.trees_stay.Goals as goal

pub returns : goal.returns
returns w h es m q r rs more only measured quiet ready = stays_ready h (world_after (new_world h) es) (reached_after h es) m only measured q r rs more quiet ready
