use Rattle.oc_laws_records.proofs.Plain.{node_plain}
use Rattle.oc_laws_records.proofs.writing.nodes_take_inputs_of_records.Goals as goal

pub returns : goal.returns
returns c = node_plain
