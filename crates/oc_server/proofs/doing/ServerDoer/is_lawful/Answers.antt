use Rattle.std.proofs.Common.{refl}
use Rattle.oc_server.proofs.doing.ServerDoer.is_lawful.Goals as goal

pub returns-clause-lawful_works : goal.returns-clause-lawful_works
returns-clause-lawful_works g c = λ s serving. serving.lawful.works

pub returns-clause-same_me : goal.returns-clause-same_me
returns-clause-same_me g c = λ s. refl

pub returns-clause-places : goal.returns-clause-places
returns-clause-places g c = λ s serving. serving.set.placed.count

pub returns-clause-roomy : goal.returns-clause-roomy
returns-clause-roomy g c = λ s serving. serving.set.roomy

pub returns-clause-areas : goal.returns-clause-areas
returns-clause-areas g c = λ s serving. serving.set.areas
