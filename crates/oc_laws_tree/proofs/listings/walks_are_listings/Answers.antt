use Rattle.oc_laws_tree.proofs.Walks.{walks_are_listings, one_topmost}
use Rattle.oc_laws_tree.proofs.listings.walks_are_listings.Goals as goal

pub returns-clause-walks : goal.returns-clause-walks
returns-clause-walks c = walks_are_listings

pub returns-clause-one_topmost : goal.returns-clause-one_topmost
returns-clause-one_topmost c = one_topmost
