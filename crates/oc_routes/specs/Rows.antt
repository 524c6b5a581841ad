-- The rows of a table and the children of a node, with all that is told of each.
use Rattle.std.specs.Prelude.{ℕ, Bool, true, false, not, ◌==◌, Option, Some, None, List, [], ◌∷◌, ◌++◌, map, filter, drop}
use Rattle.oc_base.specs.declared.cert.Cert.{Cert}
use Rattle.oc_base.specs.declared.cert.Child.{Child}
use Rattle.oc_model.specs.Node.{Control}
use Rattle.oc_model.specs.Numbers.{at}
use Rattle.oc_model.specs.Table.{is_listed}
use Rattle.oc_state.specs.Children.{told_children}
use Rattle.oc_routes.specs.Sights.{Sight, is_left_out}
use Rattle.oc_routes.specs.declared.leased.Leased.{Leased}
use Rattle.oc_routes.specs.declared.rows.Row.{Row}

-- each row of a table, and whether its node is listed beneath r
abbrev pub rows_of : List Cert → ℕ → List Row
rows_of t r = map (λ k. record { cert = k; listed = is_listed t r k.subject }) t

-- the rows of the status: without those of nodes that are retired and not listed
abbrev pub rows_told : Sight → List Row
rows_told s = filter (λ row. not (is_left_out s row.cert.subject row.listed)) (rows_of s.node.kept.table s.node.me)

-- each of these children, with the end of its lease by these ends
abbrev pub leased_among : List (Option ℕ) → List Child → List Leased
leased_among ends cs = map (λ c. record { child = c; lease = at ends c.id None }) cs

-- the leased children of a node, ascending
abbrev pub leased_of : Control → List Leased
leased_of n = leased_among n.leases (told_children n.kept.table n.me n.rates)

-- The rows that are listed, where these nodes are the listed ones of the rows from here on.

-- the node of this row is the first of the listed ones
abbrev pub is_first : Option Cert → List ℕ → Bool
is_first None xs = false
is_first (Some k) [] = false
is_first (Some k) (x ∷ xs) = x == k.subject

-- the listed nodes of the rows after this row
abbrev pub after_row : Bool → List ℕ → List ℕ
after_row true xs = drop 1 xs
after_row false xs = xs

abbrev pub row_of : Option Cert → Bool → List Row
row_of None listed = []
row_of (Some k) listed = record { cert = k; listed = listed } ∷ []

abbrev pub marked : List (Option Cert) → List ℕ → List Row
marked [] xs = []
marked (row ∷ rows) xs = row_of row (is_first row xs) ++ marked rows (after_row (is_first row xs) xs)
