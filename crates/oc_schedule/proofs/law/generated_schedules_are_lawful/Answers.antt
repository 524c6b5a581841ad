-- A proof by the events of the draws.
use Rattle.oc_schedule.proofs.Generated.{generated_is_schedule}
use Rattle.oc_schedule.proofs.law.generated_schedules_are_lawful.Goals as goal

pub returns : goal.returns
returns c = generated_is_schedule
