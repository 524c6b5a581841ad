use Rattle.oc_laws_tree.proofs.Explained.{explained}
use Rattle.oc_laws_tree.proofs.FromWords.{tree_of_words}
use Rattle.oc_laws_tree.proofs.Informed.{informed}
use Rattle.oc_laws_tree.proofs.listings.explanations_follow.Goals as goal

pub returns-clause-lines : goal.returns-clause-lines
returns-clause-lines c = λ w tables peers asks granted covered. explained w (tree_of_words w tables peers asks granted covered)

pub returns-clause-counts : goal.returns-clause-counts
returns-clause-counts c = λ w tables peers asks granted covered counts numbers.
    informed w (record { tree = tree_of_words w tables peers asks granted covered; counts = counts; numbers = numbers })
