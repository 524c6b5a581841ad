use Rattle.std.proofs.Common.{rules}
use Rattle.oc_record.specs.Reading.{snapshot_at}
use Rattle.oc_record.proofs.kinds.snapshot_at.Goals as goal

pub returns-in_err-generation : goal.returns-in_err-generation
unfolding snapshot_at
returns-in_err-generation c = search rules

pub returns : goal.returns
unfolding snapshot_at
returns c = search rules
