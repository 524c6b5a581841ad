-- The values of the fields of one name.
use Rattle.std.specs.Prelude.{ℕ, Bool, true, false, Option, Some, None, List, [], ◌∷◌}
use Rattle.oc_select.specs.declared.selectors.Selectors.{Selectors}

-- presence of the field
abbrev pub is_present : List (List ℕ) → Bool
is_present [] = false
is_present (value ∷ more) = true

-- the value of the field, where there is just one
abbrev pub only_of : List (List ℕ) → Option (List ℕ)
only_of [] = None
only_of (value ∷ []) = Some value
only_of (value ∷ second ∷ more) = None

-- none of the fields
abbrev pub no_selectors : Selectors
no_selectors = record { if_match = []; if_none_match = []; if_modified_since = []; if_unmodified_since = []; if_range = []; range = [] }
