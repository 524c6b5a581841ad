use Rattle.oc_laws_world.proofs.Passing.{always}
use Rattle.oc_laws_tree.specs.Grants.{FactsAreGranted, YesesAreGranted, ParentsAreGranted}
use Rattle.oc_laws_tree.proofs.Together.{all_throughout, all_grants_covered, all_yeses_covered, all_parents_covered}
use Rattle.oc_laws_tree.proofs.grants.grants_are_known.Goals as goal

pub returns-clause-facts : goal.returns-clause-facts
returns-clause-facts c = always FactsAreGranted (all_throughout FactsAreGranted all_grants_covered)

pub returns-clause-yeses : goal.returns-clause-yeses
returns-clause-yeses c = always YesesAreGranted (all_throughout YesesAreGranted all_yeses_covered)

pub returns-clause-parents : goal.returns-clause-parents
returns-clause-parents c = always ParentsAreGranted (all_throughout ParentsAreGranted all_parents_covered)
