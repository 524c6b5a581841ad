-- A table, as a contract sees it, and the form in which the code keeps it.
use Rattle.std.specs.Prelude.{◌≡◌, ℕ, ◌+◌, Option, None, Some, List, [], ◌∷◌, length}
use Rattle.std.specs.List.{filter_map}
use Rattle.oc_base.specs.declared.cert.Cert.{Cert}
use Rattle.oc_base.specs.Lawful.{IsCert}
use Rattle.oc_base.specs.SlotsView.{SlotsView}

-- the number of nodes, the certificates (ascending by subject), and the number of rows for which there is memory
pub record TableView : Type 0 where
  pub nodes : ℕ
  pub entries : List Cert
  pub room : ℕ

-- the rows of the nodes from x on: each certificate is in the row of its subject
abbrev pub AreRowsFrom : ℕ → ℕ → List (Option Cert) → Type 0
AreRowsFrom nodes x [] = Unit {0}
AreRowsFrom nodes x (None ∷ rows) = AreRowsFrom nodes (x + 1) rows
AreRowsFrom nodes x (Some c ∷ rows) = (c.subject ≡ x) × IsCert nodes c × AreRowsFrom nodes (x + 1) rows

-- rows for all nodes: each certificate is in the row of its subject
abbrev pub AreRows : List (Option Cert) → Type 0
AreRows rows = AreRowsFrom (length rows) 1 rows

-- the same for slots, in which unused rows have no certificate
abbrev pub AreTableRows : SlotsView (Option Cert) → Type 0
AreTableRows rows = AreRows rows.items × (rows.blank ≡ None)

-- the certificates of these rows
abbrev pub entries_of : List (Option Cert) → List Cert
entries_of rows = filter_map (λ row. row) rows
