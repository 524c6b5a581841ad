use Rattle.std.specs.Prelude.{ℕ, ◌||◌, if◌then◌else◌, List, [], ◌∷◌, ◌++◌, reverse}
use Rattle.oc_model.specs.Choice.{each_once}
use Rattle.oc_model.specs.Numbers.{has}

-- A list without repeats, as it grows.

-- the list with this id at its end, unless the id is left out or in the list already
abbrev pub put_new : List ℕ → List ℕ → ℕ → List ℕ
put_new out list x = if has out x || has list x then list else list ++ x ∷ []

-- the list, and after it each of these ids once that is neither left out nor in the list already
abbrev pub with_once : List ℕ → List ℕ → List ℕ → List ℕ
with_once out list xs = list ++ each_once (reverse list ++ out) xs
