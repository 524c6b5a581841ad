use Rattle.oc_base.specs.Groups.{shelf}
use Rattle.oc_model.specs.Node.{new_durable}
use Rattle.oc_record.proofs.CalmSteps.{calm_planned, calm_started}
use Rattle.oc_record.proofs.changes.members_and_roots_seek_no_place.Goals as goal

pub returns-clause-new : goal.returns-clause-new
returns-clause-new c = λ h x header. calm_started h x (new_durable h.nodes) header.chain

pub returns-clause-step : goal.returns-clause-step
returns-clause-step c = λ n i calm. calm_planned n.control (shelf n.groups) i calm

pub returns-clause-start : goal.returns-clause-start
returns-clause-start c = λ n calm. calm_started (record { nodes = n.control.nodes; chain = n.control.chain; chunk = n.control.chunk; areas = n.control.areas }) n.control.me n.control.kept calm.line

pub returns-clause-recovery : goal.returns-clause-recovery
returns-clause-recovery c = λ h x kept header. calm_started h x kept header.chain
