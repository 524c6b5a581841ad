-- The codes of the kinds of a binary format.
use Rattle.std.specs.Prelude.{ℕ, ◌≢◌, ◌==◌, Bool, true, not, ◌&&◌, Option, List, [], ◌∷◌}
use Rattle.std.specs.List.{AllPairs, list_all, position}
use Rattle.oc_base.specs.declared.code_row.CodeRow.{CodeRow}

-- the index of the first row with this code
abbrev pub row_of : ℕ → List CodeRow → Option ℕ
row_of code rows = position (λ row. row.code == code) rows

-- no two rows have the same code
abbrev pub AreDistinct : List CodeRow → Type 0
AreDistinct rows = AllPairs (λ a b. a.code ≢ b.code) rows

-- no row has the code of an earlier one
abbrev pub are_distinct : List CodeRow → Bool
are_distinct [] = true
are_distinct (row ∷ rows) = list_all (λ later. not (later.code == row.code)) rows && are_distinct rows
