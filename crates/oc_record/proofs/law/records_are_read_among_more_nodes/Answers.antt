use Rattle.oc_record.proofs.MoreNodes.{decoded_too}
use Rattle.oc_record.proofs.law.records_are_read_among_more_nodes.Goals as goal

pub returns : goal.returns
returns c = λ few many bytes list more e. decoded_too few many more bytes list e
