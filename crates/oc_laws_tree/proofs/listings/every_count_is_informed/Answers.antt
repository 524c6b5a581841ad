use Rattle.oc_model.specs.ClaimsTree.{IsInformed}
use Rattle.oc_laws_world.proofs.Passing.{always}
use Rattle.oc_laws_tree.proofs.Informed.{informed}
use Rattle.oc_laws_tree.proofs.Together.{all_throughout, counted_tree}
use Rattle.oc_laws_tree.proofs.listings.every_count_is_informed.Goals as goal

pub returns : goal.returns
returns c = always IsInformed (all_throughout IsInformed (λ w holds. informed w (counted_tree w holds)))
