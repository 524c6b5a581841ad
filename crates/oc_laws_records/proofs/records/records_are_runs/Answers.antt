use Rattle.oc_laws_records.proofs.Written.{written_run}
use Rattle.oc_laws_records.proofs.records.records_are_runs.Goals as goal

pub returns : goal.returns
returns c = written_run
