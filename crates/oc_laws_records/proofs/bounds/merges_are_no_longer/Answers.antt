use Rattle.oc_laws_records.proofs.Bounded.{merge_bounded}
use Rattle.oc_laws_records.proofs.bounds.merges_are_no_longer.Goals as goal

pub returns : goal.returns
returns c = merge_bounded
