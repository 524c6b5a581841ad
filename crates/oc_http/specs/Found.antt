-- The result of a search among the fields of a head.
use Rattle.std.specs.Prelude.{◌≡◌, ℕ, List, [], ◌∷◌}
use Rattle.oc_http.specs.declared.field_match.FieldMatch.{FieldMatch}
use Rattle.oc_http.specs.declared.field_match.FieldMatch.TheVariants.{Absent, One, Several}

-- the values that were found
abbrev pub IsFound : FieldMatch → List (List ℕ) → Type 0
IsFound Absent values = values ≡ []
IsFound (One first) values = values ≡ first.now ∷ []
IsFound (Several first) values = (second : List ℕ) × (more : List (List ℕ)) × (values ≡ first.now ∷ second ∷ more)
