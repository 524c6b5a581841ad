use Rattle.oc_store.proofs.MoreNodes.{good_too, recovered_too}
use Rattle.oc_store.proofs.law.files_are_those_of_more_nodes.Goals as goal

pub returns-clause-good : goal.returns-clause-good
returns-clause-good c = λ few many file more good. good_too few many more file good

pub returns-clause-records : goal.returns-clause-records
returns-clause-records c = λ few many file alternate more first second. recovered_too few many more file alternate first second
