-- Texts in parts, as they are handed over to be joined.
use Rattle.std.specs.Prelude.{ℕ, List, [], ◌∷◌, ◌++◌}
use Rattle.std.specs.Borrow.{Bor}
use Rattle.oc_http.specs.declared.field_line.FieldLine.{FieldLine}

-- the parts, one after the other
abbrev pub joined : List (Bor (List ℕ)) → List ℕ
joined [] = []
joined (part ∷ parts) = part.now ++ joined parts

-- a line in three parts
abbrev pub line_text : FieldLine → List ℕ
line_text line = line.name.now ++ line.value.now ++ line.end.now
