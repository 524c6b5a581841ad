use Rattle.oc_model.specs.NextWorld.{world_after}
use Rattle.oc_model.specs.World.{new_world}
use Rattle.oc_laws_tree.proofs.Reached.{reached_after}
use Rattle.oc_laws_rest.proofs.Leases.{joined_are_leased}
use Rattle.oc_laws_rest.proofs.law.joined_nodes_are_leased.Goals as goal

pub returns : goal.returns
returns c h es q r rs quiet = joined_are_leased h (world_after (new_world h) es) (reached_after h es) q r rs quiet
