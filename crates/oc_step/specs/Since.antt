-- The effect of records on single parts of a node.
use Rattle.std.specs.Prelude.{ℕ, ◌&&◌, ◌==◌, if◌then◌else◌, Option, Some, None, List, [], ◌∷◌, ◌++◌}
use Rattle.std.specs.List.{AllByRecursion}
use Rattle.oc_base.specs.declared.cert.Cert.{Cert}
use Rattle.oc_model.specs.declared.record.Record.{Record}
use Rattle.oc_model.specs.declared.record.Record.TheVariants as records
use Rattle.oc_model.specs.Table.{is_news_to}

-- the ancestors after a record
abbrev pub ancestors_by : List ℕ → Record → List ℕ
ancestors_by xs (records.Ancestors ys) = ys
ancestors_by xs records.Acting = []
ancestors_by xs (records.Snapshot g) = []
ancestors_by xs r = xs

-- the ancestors after these records
abbrev pub ancestors_over : List ℕ → List Record → List ℕ
ancestors_over xs [] = xs
ancestors_over xs (r ∷ rs) = ancestors_over (ancestors_by xs r) rs

-- the entry of x after a certificate
abbrev pub entry_with : ℕ → Option Cert → Cert → Option Cert
entry_with x was c = if c.subject == x && is_news_to was c then Some c else was

-- the entry of x after a record
abbrev pub entry_by : ℕ → Option Cert → Record → Option Cert
entry_by x was (records.Entry c) = entry_with x was c
entry_by x was (records.OldEntry y s p dead) = entry_with x was (record { subject = y; seq = s; parent = p; dead = dead; number = 0; clients = 0 })
entry_by x was (records.Snapshot g) = None
entry_by x was r = was

-- the entry of x after these records
abbrev pub entry_over : ℕ → Option Cert → List Record → Option Cert
entry_over x was [] = was
entry_over x was (r ∷ rs) = entry_over x (entry_by x was r) rs

-- a record that tells a fact and changes no other part: a certificate for the table, or the own number and client count
abbrev pub IsTold : Record → Type 0
IsTold (records.Entry c) = Unit {0}
IsTold (records.Info number clients) = Unit {0}
IsTold r = ⊥

abbrev pub AreTold : List Record → Type 0
AreTold rs = AllByRecursion IsTold rs

-- the certificates of these records
abbrev pub certs_of : Record → List Cert
certs_of (records.Entry c) = c ∷ []
certs_of r = []

abbrev pub certs_in : List Record → List Cert
certs_in [] = []
certs_in (r ∷ rs) = certs_of r ++ certs_in rs
