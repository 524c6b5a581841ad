use Rattle.std.specs.Prelude.{◌≡◌, ◌<◌, ◌≤◌, ◌+◌, ℕ, false, Some, List, [], ◌∷◌, length}
use Rattle.std.specs.List.{AllByRecursion}
use Rattle.oc_base.specs.declared.cert.Cert.{Cert}
use Rattle.oc_base.specs.declared.rank.Rank.{Rank}
use Rattle.oc_model.specs.declared.mode.Mode.{Mode}
use Rattle.oc_model.specs.declared.mode.Mode.TheVariants.{Asking, Joined}
use Rattle.oc_model.specs.declared.record.Record.{Record}
use Rattle.oc_model.specs.declared.record.Record.TheVariants as records
use Rattle.oc_base.specs.declared.limits.TheConstants.{MAX_ANCESTORS}
use Rattle.oc_model.specs.Node.{Control, Durable, empty_log}
use Rattle.oc_model.specs.Table.{is_news}

-- The properties of every node that any inputs lead to.

-- all these rows have greater subjects
abbrev pub AreAbove : ℕ → List Cert → Type 0
AreAbove x ks = AllByRecursion (λ k. x < k.subject) ks

-- a table: ascending by subject, so it has one row per subject
abbrev pub IsTable : List Cert → Type 0
IsTable [] = Unit {0}
IsTable (k ∷ ks) = AreAbove k.subject ks × IsTable ks

-- the log and the other parts that fit a mode: a joined node has asked, has a rank, and its table knows all that waits in its log; a node
-- in another mode has an empty log
abbrev pub IsSoundAs : Mode → Durable → Type 0
IsSoundAs (Joined p) d =
    (d.seq ≡ 0 → ⊥) × ((r : Rank) × (d.rank ≡ Some r)) × (d.log.length ≡ d.log.acked + length d.log.waiting)
    × AllByRecursion (λ c. is_news d.table c ≡ false) d.log.waiting
IsSoundAs (Asking p) d = (d.seq ≡ 0 → ⊥) × (d.log ≡ empty_log)
IsSoundAs mode d = d.log ≡ empty_log

-- the durable state of a node in a network of `nodes` nodes
pub record IsSoundDurable (nodes : ℕ) (d : Durable) : Type 0 where
  pub table : IsTable d.table
  pub mode : IsSoundAs d.mode d
  pub own : d.number ≡ 0 → d.clients ≡ 0
  pub ancestors : length d.ancestors ≤ MAX_ANCESTORS
  pub measures : length d.measures ≡ nodes

-- the control state of a node: each list by number has an item for each node
pub record IsSound (n : Control) : Type 0 where
  pub kept : IsSoundDurable n.nodes n.kept
  pub leases : length n.leases ≡ n.nodes
  pub rates : length n.rates ≡ n.nodes
  pub counts : length n.counts ≡ n.nodes

-- a record that rules may write: an ask has a number above 0, own numbers were counted, ancestors are within the limit; no snapshot records
abbrev pub IsSoundRecord : Record → Type 0
IsSoundRecord (records.Ask s p) = s ≡ 0 → ⊥
IsSoundRecord (records.Info n c) = n ≡ 0 → ⊥
IsSoundRecord (records.Ancestors xs) = length xs ≤ MAX_ANCESTORS
IsSoundRecord (records.OldEntry x s p dead) = ⊥
IsSoundRecord (records.Base n) = ⊥
IsSoundRecord (records.Snapshot g) = ⊥
IsSoundRecord r = Unit {0}
