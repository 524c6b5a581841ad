use Rattle.oc_laws_world.proofs.Passing.{always}
use Rattle.oc_laws_tree.specs.Listing.{SettledListsExactly}
use Rattle.oc_laws_tree.proofs.Explained.{explained}
use Rattle.oc_laws_tree.proofs.SettledExact.{settled_exact}
use Rattle.oc_laws_tree.proofs.Together.{all_throughout, tree_holds}
use Rattle.oc_laws_tree.proofs.listings.settled_trees_are_listed_exactly.Goals as goal

pub returns : goal.returns
returns c = always SettledListsExactly (all_throughout SettledListsExactly (λ w holds. settled_exact w (explained w (tree_holds w holds))))
