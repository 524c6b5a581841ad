use Rattle.oc_model.specs.NextWorld.{world_after}
use Rattle.oc_model.specs.World.{new_world}
use Rattle.oc_laws_tree.proofs.Reached.{reached_after}
use Rattle.oc_laws_rest.proofs.Children.{keeps_parent}
use Rattle.oc_laws_rest.proofs.law.nodes_keep_their_parents.Goals as goal

pub returns-clause-parent : goal.returns-clause-parent
returns-clause-parent c h es q r rs more x p quiet plain up joined = (keeps_parent h (world_after (new_world h) es) (reached_after h es) q r rs more x p quiet plain up joined).joined

pub returns-clause-number : goal.returns-clause-number
returns-clause-number c h es q r rs more x p quiet plain up joined = (keeps_parent h (world_after (new_world h) es) (reached_after h es) q r rs more x p quiet plain up joined).seq
