use Rattle.oc_model.specs.NextWorld.{world_after}
use Rattle.oc_model.specs.World.{new_world}
use Rattle.oc_laws_tree.proofs.Reached.{reached_after}
use Rattle.oc_laws_rest.proofs.Asks.{nobody_asks}
use Rattle.oc_laws_rest.proofs.law.asks_end.Goals as goal

pub returns : goal.returns
returns c h es r rs quiet = nobody_asks h (world_after (new_world h) es) (reached_after h es) r rs quiet
