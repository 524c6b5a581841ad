-- The certificates that the change log of a joined node takes.
use Rattle.std.specs.Prelude.{◌≡◌, ◌⊎◌, ℕ, ◌+◌, true, List, [], ◌∷◌, ◌++◌, length}
use Rattle.oc_base.specs.declared.cert.Cert.{Cert}
use Rattle.oc_model.specs.ChangeLog.{ack}
use Rattle.oc_model.specs.Node.{Durable, Log}
use Rattle.oc_model.specs.Table.{is_news, merge}

-- these certificates lead from one table to another, one after another, each of them news at its turn
abbrev pub AreTaken : List Cert → List Cert → List Cert → Type 0
AreTaken t [] u = u ≡ t
AreTaken t (c ∷ cs) u = (is_news t c ≡ true) × AreTaken (merge t c) cs u

-- the log with these certificates at its end
abbrev pub with_tail : Log → List Cert → Log
with_tail l cs = record { length = l.length + length cs; acked = l.acked; waiting = l.waiting ++ cs }

-- the log took these certificates at its end, or none while a part of the log was acknowledged, and
-- is otherwise unchanged
abbrev pub LogTakes : Log → List Cert → Log → Type 0
LogTakes l cs k = (k ≡ with_tail l cs) ⊎ ((cs ≡ []) × ((upto : ℕ) × (k ≡ ack l upto)))

-- the log's new tail has exactly the certificates that changed the table, in their order
pub record IsQuashed (before after : Durable) (taken : List Cert) : Type 0 where
  pub table : AreTaken before.table taken after.table
  pub log : LogTakes before.log taken after.log
