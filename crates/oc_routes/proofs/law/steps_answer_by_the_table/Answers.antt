use Rattle.oc_base.specs.Groups.{shelf}
use Rattle.oc_model.specs.Plan.{begun}
use Rattle.oc_routes.proofs.StepAnswers.{of_publish, of_seal, of_client}
use Rattle.oc_routes.proofs.law.steps_answer_by_the_table.Goals as goal

pub returns-clause-publish : goal.returns-clause-publish
returns-clause-publish c = λ n group bytes. of_publish n.control (shelf n.groups) group bytes

pub returns-clause-seal : goal.returns-clause-seal
returns-clause-seal c = λ n group. of_seal n.control (shelf n.groups) group

pub returns-clause-client : goal.returns-clause-client
returns-clause-client c = λ n area start group. of_client (begun n.control) (shelf n.groups) area start group
