-- The parts of a query.
use Rattle.std.specs.Prelude.{ℕ, List, ◌==◌}
use Rattle.std.specs.List.{slice_split}
use Rattle.std.specs.Str.{byte}

-- the parts of a query, which `&` separates
abbrev pub parts : List ℕ → List (List ℕ)
parts query = slice_split (λ b. b == byte "&") query
