-- The target of a job.
use Rattle.std.specs.Prelude.{option_map}
use Rattle.oc_client.specs.PutRequests.{Goal}
use Rattle.oc_client.specs.declared.job.Job.{Job}

abbrev pub goal_of : Job → Goal
goal_of job = record { url = job.target; token = option_map (λ t. t.now) job.token }
