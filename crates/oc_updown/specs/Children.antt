-- The leases of children, by one row of a table.
use Rattle.std.specs.Prelude.{ℕ, ◌&&◌, if◌then◌else◌, Option, None, Some, List}
use Rattle.oc_base.specs.declared.cert.Cert.{Cert}
use Rattle.oc_model.specs.Numbers.{at}
use Rattle.oc_model.specs.Table.{is_lease_of}
use Rattle.oc_model.specs.Leases.{start_if, is_over}

-- the lease ends after the row's subject got one, if it is a child of y without an end
abbrev pub start_row : ℕ → Option Cert → List (Option ℕ) → ℕ → List (Option ℕ)
start_row y None ends now = ends
start_row y (Some k) ends now = if is_lease_of y k then start_if (at ends k.subject None) ends k.subject now else ends

-- the row's subject, if it is a child of y whose lease has ended
abbrev pub ended_of_row : ℕ → Option Cert → List (Option ℕ) → ℕ → Option ℕ
ended_of_row y None ends now = None
ended_of_row y (Some k) ends now = if is_lease_of y k && is_over (at ends k.subject None) now then Some k.subject else None
