use Rattle.oc_laws_tree.proofs.SettledExact.{none_missing, none_wrong, settled_exact}
use Rattle.oc_laws_tree.proofs.listings.settled_trees_have_no_cause.Goals as goal

pub returns-clause-missing : goal.returns-clause-missing
returns-clause-missing c = λ w r x settled. none_missing w settled r x

pub returns-clause-wrong : goal.returns-clause-wrong
returns-clause-wrong c = λ w r x settled. none_wrong w settled r x

pub returns-clause-exact : goal.returns-clause-exact
returns-clause-exact c = settled_exact
