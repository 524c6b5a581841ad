-- The conditions under which a plan can be applied, and the step that it belongs to.
use Rattle.std.specs.Prelude.{◌≡◌, ℕ, ◌<◌, ◌≤◌, List, length}
use Rattle.std.specs.List.{AllByRecursion}
use Rattle.oc_base.specs.Groups.{shelf}
use Rattle.oc_base.specs.declared.shelf.Shelf.{Shelf}
use Rattle.oc_model.specs.declared.input.Input.{Input}
use Rattle.oc_model.specs.Lawful.{AreRecords}
use Rattle.oc_model.specs.Node.{Control, Node}
use Rattle.oc_model.specs.Step.{plan, step}
use Rattle.oc_state.specs.DurableView.{DurableView, HasRoom, brought_by}
use Rattle.oc_step.specs.NodeView.{ListRooms, NodeView, IsReached}
use Rattle.oc_step.specs.Planned.{PlanView, control_after, planned}
use Rattle.oc_state.specs.ListUpdates.{IsListUpdate}

-- the durable parts of a node
abbrev pub durable_in : NodeView → DurableView
durable_in v = record { nodes = v.control.nodes; kept = v.control.kept; room = v.room }

-- each list has memory for all nodes
pub record HaveRoom (nodes : ℕ) (rooms : ListRooms) : Type 0 where
  pub leases : nodes ≤ rooms.leases
  pub rates : nodes ≤ rooms.rates
  pub counts : nodes ≤ rooms.counts

-- there is room for the records of a plan, and for its updates, if there are any
abbrev pub HasRoomFor : NodeView → PlanView → Type 0
HasRoomFor v p = HasRoom (durable_in v) (brought_by p.records) × (0 < length p.updates → HaveRoom v.control.nodes v.lists)

-- the plan is for this node in its present state: it leaves the node reachable, and there is room for its changes
pub record CanApply (v : NodeView) (p : PlanView) : Type 0 where
  pub reached : IsReached (control_after v.control p)
  pub records : AreRecords v.control.nodes p.records
  pub updates : AllByRecursion (IsListUpdate v.control.nodes) p.updates
  pub room : HasRoomFor v p

-- the node has this control state, and its groups have this shelf
abbrev pub HasParts : Node → Control → List Shelf → Type 0
HasParts n control lines = (n.control ≡ control) × (shelf n.groups ≡ lines)

-- the plan is that of this node's step for this input, but its chunk may lack its bytes
abbrev pub IsPlanOf : Node → Input → PlanView → Type 0
IsPlanOf n i p = planned n.control p ≡ plan n.control (shelf n.groups) i

-- the plan is that of this node's step for this input, and its chunk has its bytes
abbrev pub IsStepOf : Node → Input → PlanView → Type 0
IsStepOf n i p = planned n.control p ≡ record (plan n.control (shelf n.groups) i) { sends = (step n i).sends }
