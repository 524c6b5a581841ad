-- The bytes that are taken from a source one at a time.
use Rattle.std.specs.Prelude.{ℕ, Option, Some, None, List, [], ◌∷◌}

-- the byte that came, if one came
abbrev pub bytes_of : Option ℕ → List ℕ
bytes_of None = []
bytes_of (Some byte) = byte ∷ []
