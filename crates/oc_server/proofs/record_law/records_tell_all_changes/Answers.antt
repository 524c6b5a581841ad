use Rattle.oc_server.proofs.RecordedNodes.{recorded_node}
use Rattle.oc_server.proofs.record_law.records_tell_all_changes.Goals as goal

pub returns : goal.returns
returns c = recorded_node
