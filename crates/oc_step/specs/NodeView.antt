-- A node, as a contract sees it.
use Rattle.std.specs.Prelude.{ℕ, Option, List}
use Rattle.oc_model.specs.declared.soft.Soft.{Soft}
use Rattle.oc_base.specs.Lawful.{IsNode}
use Rattle.oc_model.specs.Lawful.{IsHeader}
use Rattle.oc_model.specs.Node.{Control, Durable}
use Rattle.oc_laws_step.specs.LawfulNode.{IsLawfulControl}
use Rattle.oc_laws_step.specs.Sound.{IsSound}

-- the number of nodes for which each of these lists has memory
pub record ListRooms : Type 0 where
  pub leases : ℕ
  pub rates : ℕ
  pub counts : ℕ

-- the control state, the room in the change log in certificates, and the memory of the lists
pub record NodeView : Type 0 where
  pub control : Control
  pub room : ℕ
  pub lists : ListRooms

-- the control state of these parts
abbrev pub control_of : ℕ → ℕ → ℕ → ℕ → List ℕ → Durable → Soft → List (Option ℕ) → List ℕ → List ℕ → Control
control_of me nodes chain chunk areas kept soft leases rates counts = record {
  me = me;
  nodes = nodes;
  chain = chain;
  chunk = chunk;
  areas = areas;
  kept = kept;
  soft = soft;
  leases = leases;
  rates = rates;
  counts = counts;
}

-- a node in a state that every input and every start keeps: sound, with its numbers within their ranges
pub record IsReached (n : Control) : Type 0 where
  pub header : IsHeader (record { nodes = n.nodes; chain = n.chain; chunk = n.chunk; areas = n.areas })
  pub me : IsNode n.nodes n.me
  pub sound : IsSound n
  pub lawful : IsLawfulControl n.nodes n
