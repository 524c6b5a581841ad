use Rattle.oc_base.proofs.Differing.{same_as_test}
use Rattle.oc_base.proofs.code_row.distinct.Goals as goal

pub returns-clause-exact : goal.returns-clause-exact
returns-clause-exact g c = same_as_test _ _ c.are_different.ensures
