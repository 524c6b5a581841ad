use Rattle.std.specs.Prelude.{ℕ, false, Option, None, List, [], replicate}
use Rattle.oc_base.specs.declared.cert.Cert.{Cert}
use Rattle.oc_base.specs.declared.rank.Rank.{Rank}
use Rattle.oc_model.specs.declared.answer.Answer.{Answer}
use Rattle.oc_base.specs.declared.group.Group.{Group}
use Rattle.oc_model.specs.declared.message.Message.{Message}
use Rattle.oc_model.specs.declared.mode.Mode.{Mode}
use Rattle.oc_model.specs.declared.mode.Mode.TheVariants.{Idle}
use Rattle.oc_model.specs.declared.reading.Reading.{Reading}
use Rattle.oc_model.specs.declared.record.Record.{Record}
use Rattle.oc_model.specs.declared.soft.Soft.{Soft}

-- The state of one node.

-- the sizes of a network and the area of each node: the number of nodes, the length of the chain, the most bytes of a chunk, the areas
pub record Header : Type 0 where
  pub nodes : ℕ
  pub chain : ℕ
  pub chunk : ℕ
  pub areas : List ℕ

-- the change log: its length, the number of certificates that the parent has acknowledged, and the rest, which wait
pub record Log : Type 0 where
  pub length : ℕ
  pub acked : ℕ
  pub waiting : List Cert

-- the durable part of a node's control state: its last ask number, its mode and rank, its own number and client count, its table
-- (one row per subject, ascending), its change log, its ancestors (nearest first), its reading of each peer (by number)
pub record Durable : Type 0 where
  pub seq : ℕ
  pub mode : Mode
  pub rank : Option Rank
  pub number : ℕ
  pub clients : ℕ
  pub table : List Cert
  pub log : Log
  pub ancestors : List ℕ
  pub measures : List Reading

-- the control state: all of a node except its content. A start clears `soft`, the lease ends, the children's rates and the
-- redirection counts; the last three are lists by the number of a node
pub record Control : Type 0 where
  pub me : ℕ
  pub nodes : ℕ
  pub chain : ℕ
  pub chunk : ℕ
  pub areas : List ℕ
  pub kept : Durable
  pub soft : Soft
  pub leases : List (Option ℕ)
  pub rates : List ℕ
  pub counts : List ℕ

-- the state of a node: its control state and its groups
pub record Node : Type 0 where
  pub control : Control
  pub groups : List Group

-- the effect of an input on a node: the node after it, the durable records, the messages to send, and the answer
pub record Outcome : Type 0 where
  pub node : Node
  pub records : List Record
  pub sends : List Message
  pub answer : Answer

-- the change log of a new node
abbrev pub empty_log : Log
empty_log = record { length = 0; acked = 0; waiting = [] }

-- a reading of 0 for a peer that was not measured
abbrev pub no_reading : Reading
no_reading = record { rate = 0; hops = 0 }

-- the durable part of a new node, in a network of this many nodes
abbrev pub new_durable : ℕ → Durable
new_durable nodes = record {
  seq = 0;
  mode = Idle;
  rank = None;
  number = 0;
  clients = 0;
  table = [];
  log = empty_log;
  ancestors = [];
  measures = replicate nodes no_reading;
}

-- the cleared part of a node that just started
abbrev pub new_soft : Soft
new_soft = record {
  clock = 0;
  due = None;
  tries = [];
  silent = false;
  refused = false;
  checked = None;
  search = None;
  served = 0;
  wish = None;
  left = None;
  waits = 0;
  patience = 0;
  moves = 0;
}

-- a node with this durable part, just started
abbrev pub started_with : Header → ℕ → Durable → Control
started_with h x d = record {
  me = x;
  nodes = h.nodes;
  chain = h.chain;
  chunk = h.chunk;
  areas = h.areas;
  kept = d;
  soft = new_soft;
  leases = replicate h.nodes None;
  rates = replicate h.nodes 0;
  counts = replicate h.nodes 0;
}

-- the control state of the new node x
abbrev pub new_control : Header → ℕ → Control
new_control h x = started_with h x (new_durable h.nodes)

abbrev pub new_node : Header → ℕ → Node
new_node h x = record { control = new_control h x; groups = [] }

-- the node after a restart: its durable part, and all else cleared
abbrev pub restarted : Node → Node
restarted n = record n {
  control = started_with (record { nodes = n.control.nodes; chain = n.control.chain; chunk = n.control.chunk; areas = n.control.areas }) n.control.me n.control.kept;
}
