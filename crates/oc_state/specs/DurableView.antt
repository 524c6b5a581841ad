-- The durable parts of a node, as a contract sees them.
use Rattle.std.specs.Prelude.{ℕ, ◌+◌, ◌≤◌, ◌<◌, ◌^◌, List, [], ◌∷◌, length}
use Rattle.oc_base.specs.declared.cert.Cert.{Cert}
use Rattle.oc_base.specs.declared.limits.TheConstants.{MAX_NODES, MAX_BASE_ACKED}
use Rattle.oc_model.specs.declared.reading.Reading.{Reading}
use Rattle.oc_model.specs.declared.record.Record.{Record}
use Rattle.oc_model.specs.declared.record.Record.TheVariants as records
use Rattle.oc_model.specs.Node.{Durable, Log}
use Rattle.oc_laws_step.specs.LawfulNode.{IsLawfulDurable}
use Rattle.oc_laws_step.specs.Sound.{IsSoundDurable}
use Rattle.oc_state.specs.declared.position.Position.{Position}

-- the number of nodes, the durable state, and the number of certificates and rates for which there is room
pub record DurableView : Type 0 where
  pub nodes : ℕ
  pub kept : Durable
  pub room : ℕ

-- the durable state of these parts
abbrev pub durable_of : Position → List Cert → Log → List ℕ → List Reading → Durable
durable_of s table log ancestors measures = record {
  seq = s.seq;
  mode = s.mode;
  rank = s.rank;
  number = s.number;
  clients = s.clients;
  table = table;
  log = log;
  ancestors = ancestors;
  measures = measures;
}

-- the number of certificates and rates that a record brings
abbrev pub brought : Record → ℕ
brought (records.Entry c) = 1
brought (records.OldEntry x s p dead) = 1
brought (records.Rate p rate hops) = 1
brought r = 0

abbrev pub brought_by : List Record → ℕ
brought_by [] = 0
brought_by (r ∷ rs) = brought r + brought_by rs

-- there is room to fold records with this number of certificates and rates: each adds at most one waiting certificate, or the whole table
pub record HasRoom (v : DurableView) (more : ℕ) : Type 0 where
  pub waiting : length v.kept.log.waiting + more ≤ v.room
  pub rows : length v.kept.table + more ≤ v.room
  pub places : v.kept.log.length + more < 2 ^ 63
  pub based : MAX_BASE_ACKED + more < 2 ^ 63

-- the durable state of a node in a network of `nodes` nodes, within the ranges in which the code keeps it
pub record IsKept (nodes : ℕ) (d : Durable) : Type 0 where
  pub few : nodes ≤ MAX_NODES
  pub sound : IsSoundDurable nodes d
  pub lawful : IsLawfulDurable nodes d
