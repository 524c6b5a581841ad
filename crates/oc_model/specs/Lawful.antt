-- Lawful values: the ranges of the numbers in texts, on the wire and in records.
use Rattle.std.specs.Prelude.{ℕ, ◌≤◌, ◌≡◌, List, length}
use Rattle.std.specs.List.{AllByRecursion}
use Rattle.oc_base.specs.Lawful.{IsNode, IsNodeOrNone, IsLong, IsCount, IsRate, IsRank, IsRankOrNone, IsCert, AreCerts, AreAncestors, IsRefusal, AreChildren}
use Rattle.oc_base.specs.Names.{IsGroupName}
use Rattle.oc_base.specs.Shelves.{IsShelf}
use Rattle.oc_base.specs.declared.limits.TheConstants.{MAX_NODES, MAX_CHAIN, MAX_AREA, MAX_HOPS, MAX_CHECK_IN_CERTS, MAX_TIME, MAX_BASE_ACKED, MAX_GROUP_BYTES, MAX_CHUNK_BYTES, MAX_PUBLISH_BYTES, MAX_START, LAST_SECOND}
use Rattle.oc_model.specs.declared.event.Act.{Act}
use Rattle.oc_model.specs.declared.event.Act.TheVariants as acts
use Rattle.oc_model.specs.declared.event.Event.{Event}
use Rattle.oc_model.specs.declared.event.Event.TheVariants as events
use Rattle.oc_model.specs.declared.input.Input.{Input}
use Rattle.oc_model.specs.declared.input.Input.TheVariants as inputs
use Rattle.oc_model.specs.declared.message.Body.{Body}
use Rattle.oc_model.specs.declared.message.Body.TheVariants as bodies
use Rattle.oc_model.specs.declared.message.Message.{Message}
use Rattle.oc_model.specs.declared.record.Record.{Record}
use Rattle.oc_model.specs.declared.record.Record.TheVariants as records
use Rattle.oc_model.specs.Node.{Header}

-- Messages

abbrev pub IsBody : ℕ → Body → Type 0
IsBody nodes bodies.Look = Unit {0}
IsBody nodes (bodies.LookIs in_tree parent rate children) = IsNodeOrNone nodes parent × IsRate rate × AreChildren nodes children
IsBody nodes (bodies.Ask seq rank) = IsCount seq × IsRankOrNone rank
IsBody nodes (bodies.Yes seq rank ancestors) = IsCount seq × IsRank rank × AreAncestors nodes ancestors
IsBody nodes (bodies.No seq why) = IsCount seq × IsRefusal nodes why
IsBody nodes (bodies.CheckIn seq upto rate number clients certs) = IsCount seq × IsLong upto × IsRate rate × IsLong number × IsLong clients × AreCerts nodes certs × (length certs ≤ MAX_CHECK_IN_CERTS)
IsBody nodes (bodies.CheckAck seq upto rank ancestors) = IsCount seq × IsLong upto × IsRank rank × AreAncestors nodes ancestors
IsBody nodes (bodies.Rejoin seq) = IsCount seq
IsBody nodes (bodies.Fetch have) = IsShelf have
IsBody nodes (bodies.Chunk group start bytes last) = IsGroupName group × (start ≤ MAX_GROUP_BYTES) × (length bytes ≤ MAX_CHUNK_BYTES)

pub record IsMessage (nodes : ℕ) (m : Message) : Type 0 where
  pub from : IsNode nodes m.from
  pub to : IsNode nodes m.to
  pub body : IsBody nodes m.body

-- Records

abbrev pub IsRecord : ℕ → Record → Type 0
IsRecord nodes (records.Ask seq peer) = IsCount seq × IsNode nodes peer
IsRecord nodes (records.Joined peer rank) = IsNode nodes peer × IsRank rank
IsRecord nodes (records.Ranked rank) = IsRank rank
IsRecord nodes (records.OldEntry subject seq parent dead) = IsNode nodes subject × IsCount seq × IsNode nodes parent
IsRecord nodes (records.Acked upto) = IsLong upto
IsRecord nodes (records.Ancestors ids) = AreAncestors nodes ids
IsRecord nodes (records.Rate peer rate hops) = IsNode nodes peer × IsRate rate × (hops ≤ MAX_HOPS)
IsRecord nodes (records.Epoch epoch) = IsLong epoch
IsRecord nodes (records.Base acked) = acked ≤ MAX_BASE_ACKED
IsRecord nodes (records.Snapshot generation) = IsCount generation
IsRecord nodes (records.Entry cert) = IsCert nodes cert
IsRecord nodes (records.Info number clients) = IsCount number × IsLong clients
IsRecord nodes r = Unit {0}

abbrev pub AreRecords : ℕ → List Record → Type 0
AreRecords nodes rs = AllByRecursion (IsRecord nodes) rs

-- Inputs

-- the input is one that node `me` may get
abbrev pub IsInput : ℕ → ℕ → Input → Type 0
IsInput nodes me (inputs.Tick t) = t ≤ LAST_SECOND
IsInput nodes me inputs.CheckNow = Unit {0}
IsInput nodes me (inputs.Relocate p) = IsNode nodes p
IsInput nodes me (inputs.Unreachable p) = IsNode nodes p
IsInput nodes me (inputs.Pull p) = IsNode nodes p
IsInput nodes me (inputs.Measured p rate hops) = IsNode nodes p × IsRate rate × (hops ≤ MAX_HOPS)
IsInput nodes me (inputs.Publish group bytes) = IsGroupName group × (length bytes ≤ MAX_PUBLISH_BYTES)
IsInput nodes me (inputs.Seal group) = IsGroupName group
IsInput nodes me (inputs.Client area start group) = (area ≤ MAX_AREA) × (start ≤ MAX_START) × IsGroupName group
IsInput nodes me (inputs.Delivered m) = IsMessage nodes m × (m.to ≡ me)

-- Schedules

-- 1 to 1,024 nodes, a chain of 1 to 16 of them, chunks of 1 to 524,288 bytes, and an area for each node
pub record IsHeader (h : Header) : Type 0 where
  pub some : 1 ≤ h.nodes
  pub few : h.nodes ≤ MAX_NODES
  pub chain : 1 ≤ h.chain
  pub short : h.chain ≤ MAX_CHAIN
  pub within : h.chain ≤ h.nodes
  pub chunk : 1 ≤ h.chunk
  pub fits : h.chunk ≤ MAX_CHUNK_BYTES
  pub areas : length h.areas ≡ h.nodes
  pub bytes : AllByRecursion (λ a. a ≤ MAX_AREA) h.areas

-- an input that a schedule may give a node: the time is at most the latest one of a schedule, and messages go by number
abbrev pub IsGiven : ℕ → ℕ → Input → Type 0
IsGiven nodes x (inputs.Tick t) = t ≤ MAX_TIME
IsGiven nodes x (inputs.Delivered m) = ⊥
IsGiven nodes x i = IsInput nodes x i

abbrev pub IsAct : ℕ → Act → Type 0
IsAct nodes (acts.At x i) = IsNode nodes x × IsGiven nodes x i
IsAct nodes (acts.Deliver k) = IsCount k

abbrev pub IsEvent : ℕ → Event → Type 0
IsEvent nodes (events.Up x) = IsNode nodes x
IsEvent nodes (events.Crash x) = IsNode nodes x
IsEvent nodes (events.Stop calls image a) = (calls ≤ 4) × (image ≤ 255) × IsAct nodes a
IsEvent nodes (events.Do a) = IsAct nodes a
IsEvent nodes (events.Held x) = IsNode nodes x
IsEvent nodes (events.Show x) = IsNode nodes x
IsEvent nodes events.Settle = Unit {0}
IsEvent nodes events.Heal = Unit {0}
