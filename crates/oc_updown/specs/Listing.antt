-- The lines of the listed nodes, and the partial results of the walks that find them.
use Rattle.std.specs.Prelude.{◌≡◌, ℕ, ◌+◌, Bool, Option, None, Some, List, [], ◌∷◌, length, map}
use Rattle.std.specs.Option.{option_to_list}
use Rattle.oc_base.specs.declared.cert.Cert.{Cert}
use Rattle.oc_base.specs.declared.cert.Line.{Line}
use Rattle.oc_model.specs.Status.{line_beneath}
use Rattle.oc_model.specs.Table.{parent_in, reaches, table_line}

-- the nodes with a certificate in the table, ascending
abbrev pub subjects : List Cert → List ℕ
subjects t = map (λ k. k.subject) t

-- the line of x, if x is listed beneath r
abbrev pub line_in : List Cert → ℕ → ℕ → Option Line
line_in t r x = line_beneath x (table_line t r x)

-- the lines that the row of a node gives: one or none
abbrev pub lines_of_row : List Cert → ℕ → Option Cert → List Line
lines_of_row t r None = []
lines_of_row t r (Some k) = option_to_list (line_in t r k.subject)

-- whether the way up from x comes to r; x may be r itself
abbrev pub is_beneath : List Cert → ℕ → ℕ → Bool
is_beneath t r x = reaches (length t) t r (parent_in t x)

-- the partial results for the nodes from x on are right
abbrev pub AreKnownFrom : List Cert → ℕ → ℕ → List (Option Bool) → Type 0
AreKnownFrom t r x [] = Unit {0}
AreKnownFrom t r x (None ∷ known) = AreKnownFrom t r (x + 1) known
AreKnownFrom t r x (Some b ∷ known) = (is_beneath t r x ≡ b) × AreKnownFrom t r (x + 1) known

-- the partial results for all nodes are right
abbrev pub AreKnown : List Cert → ℕ → List (Option Bool) → Type 0
AreKnown t r known = AreKnownFrom t r 1 known
