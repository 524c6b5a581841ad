use Rattle.std.specs.Prelude.{ℕ, ◌≡◌, ◌+◌, ◌≤◌, Option, Some, None, length}
use Rattle.std.specs.List.{AllByRecursion}
use Rattle.oc_model.specs.declared.mode.Mode.{Mode}
use Rattle.oc_model.specs.declared.mode.Mode.TheVariants.{Asking, Joined}
use Rattle.oc_model.specs.declared.reading.Reading.{Reading}
use Rattle.oc_model.specs.declared.soft.Search.{Search}
use Rattle.oc_model.specs.declared.soft.Search.TheVariants.{Descend}
use Rattle.oc_model.specs.declared.soft.Soft.{Soft}
use Rattle.oc_model.specs.declared.want.Want.{Want}
use Rattle.oc_base.specs.Groups.{shelf}
use Rattle.oc_base.specs.declared.limits.TheConstants.{MAX_NODES, MAX_HOPS, MAX_LOG_LENGTH, MAX_CHUNK_BYTES, MAX_FRAME_RECORDS, LAST_SECOND}
use Rattle.oc_model.specs.Lawful.{IsMessage, AreRecords}
use Rattle.oc_base.specs.Lawful.{IsNode, AreNodes, AreAncestors, IsLong, IsRate, IsRankOrNone, AreCerts}
use Rattle.oc_base.specs.Shelves.{IsShelf}
use Rattle.oc_model.specs.Node.{Control, Durable, Node, Outcome}
use Rattle.oc_model.specs.Plan.{Plan}
use Rattle.oc_laws_step.specs.Sound.{IsTable}

-- Nodes whose numbers are within their ranges.

-- a mode with its peer: a node with a peer has asked at least once
abbrev pub IsLawfulMode : ℕ → ℕ → Mode → Type 0
IsLawfulMode nodes seq (Asking p) = (1 ≤ seq) × IsNode nodes p
IsLawfulMode nodes seq (Joined p) = (1 ≤ seq) × IsNode nodes p
IsLawfulMode nodes seq mode = Unit {0}

-- a reading of a peer
abbrev pub IsReading : Reading → Type 0
IsReading r = IsRate r.rate × (r.hops ≤ MAX_HOPS)

-- the durable state of a node in a network of `nodes` nodes; the change log is whole, and its length has a limit of its own
pub record IsLawfulDurable (nodes : ℕ) (d : Durable) : Type 0 where
  pub seq : IsLong d.seq
  pub mode : IsLawfulMode nodes d.seq d.mode
  pub rank : IsRankOrNone d.rank
  pub number : IsLong d.number
  pub clients : IsLong d.clients
  pub sorted : IsTable d.table
  pub table : AreCerts nodes d.table
  pub waiting : AreCerts nodes d.log.waiting
  pub whole : d.log.length ≡ d.log.acked + length d.log.waiting
  pub ancestors : AreAncestors nodes d.ancestors
  pub measures : AllByRecursion IsReading d.measures

abbrev pub IsLawfulSearch : ℕ → Option Search → Type 0
IsLawfulSearch nodes (Some (Descend p)) = IsNode nodes p
IsLawfulSearch nodes s = Unit {0}

-- the state that a start clears
pub record IsLawfulSoft (nodes : ℕ) (s : Soft) : Type 0 where
  pub clock : s.clock ≤ LAST_SECOND
  pub tries : AreNodes nodes s.tries
  pub search : IsLawfulSearch nodes s.search

-- the control state of a node in a network of `nodes` nodes
pub record IsLawfulControl (nodes : ℕ) (n : Control) : Type 0 where
  pub few : nodes ≤ MAX_NODES
  pub among : n.nodes ≡ nodes
  pub me : IsNode nodes n.me
  pub chain : n.chain ≤ nodes
  pub chunk : n.chunk ≤ MAX_CHUNK_BYTES
  pub kept : IsLawfulDurable nodes n.kept
  pub soft : IsLawfulSoft nodes n.soft
  pub rates : AllByRecursion IsRate n.rates

-- the bytes wanted for a chunk are at most those of a chunk
abbrev pub IsLawfulWant : Option Want → Type 0
IsLawfulWant None = Unit {0}
IsLawfulWant (Some w) = w.count ≤ MAX_CHUNK_BYTES

-- a step under way of a lawful node: each record lengthens the change log by at most one certificate, and as long as the records are at
-- most those of a frame, they and the messages are lawful
pub record IsLawfulPlan (nodes : ℕ) (o : Plan) : Type 0 where
  pub node : IsLawfulControl nodes o.node
  pub log : o.node.kept.log.length ≤ MAX_LOG_LENGTH + length o.records
  pub records : length o.records ≤ MAX_FRAME_RECORDS → AreRecords nodes o.records
  pub sends : length o.records ≤ MAX_FRAME_RECORDS → AllByRecursion (IsMessage nodes) o.sends
  pub wants : IsLawfulWant o.wants

-- a node: its control state, and the lines of its groups
pub record IsLawfulNode (nodes : ℕ) (n : Node) : Type 0 where
  pub control : IsLawfulControl nodes n.control
  pub shelf : IsShelf (shelf n.groups)

-- the outcome of a step: the node, the records and the messages
pub record IsLawfulOutcome (nodes : ℕ) (o : Outcome) : Type 0 where
  pub node : IsLawfulNode nodes o.node
  pub records : AreRecords nodes o.records
  pub sends : AllByRecursion (IsMessage nodes) o.sends
