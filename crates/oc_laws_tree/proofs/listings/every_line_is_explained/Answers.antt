use Rattle.oc_model.specs.ClaimsTree.{IsExplained}
use Rattle.oc_laws_world.proofs.Passing.{always}
use Rattle.oc_laws_tree.proofs.Explained.{explained}
use Rattle.oc_laws_tree.proofs.Together.{all_throughout, tree_holds}
use Rattle.oc_laws_tree.proofs.listings.every_line_is_explained.Goals as goal

pub returns : goal.returns
returns c = always IsExplained (all_throughout IsExplained (λ w holds. explained w (tree_holds w holds)))
