use Rattle.oc_laws_records.proofs.Reading.{read_all}
use Rattle.oc_laws_records.proofs.records.recorded_runs_are_read.Goals as goal

pub returns : goal.returns
returns c = read_all
