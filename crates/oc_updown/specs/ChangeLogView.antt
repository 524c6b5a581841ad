-- A change log, as a contract sees it.
use Rattle.std.specs.Prelude.{ℕ, ◌+◌, List, length}
use Rattle.oc_base.specs.declared.cert.Cert.{Cert}
use Rattle.oc_model.specs.Node.{Log}

-- the number of nodes, the log, and the number of waiting certificates for which there is room
pub record ChangeLogView : Type 0 where
  pub nodes : ℕ
  pub log : Log
  pub room : ℕ

-- the log with this number of acknowledged certificates and these waiting ones
abbrev pub log_of : ℕ → List Cert → Log
log_of acked waiting = record { length = acked + length waiting; acked = acked; waiting = waiting }
