use Rattle.oc_laws_records.proofs.Stopping.{stopped_run}
use Rattle.oc_laws_records.proofs.records.stopped_runs_are_runs.Goals as goal

pub returns : goal.returns
returns c = λ h run left lost header is whole same. stopped_run h run left lost header.few is whole same
