-- The line of a group after an entry.
use Rattle.std.specs.Prelude.{ℕ, zero, suc, ◌+◌, ◌||◌, List, [], ◌∷◌}
use Rattle.oc_base.specs.declared.shelf.Shelf.{Shelf}
use Rattle.oc_content.specs.declared.heading.Heading.{Heading}

-- a list with a change of the item at i
abbrev pub changed : {X : Type 0} → (X → X) → ℕ → List X → List X
changed f i [] = []
changed f zero (x ∷ xs) = f x ∷ xs
changed f (suc i) (x ∷ xs) = x ∷ changed f i xs

-- the line of a group after an entry of `count` bytes
abbrev pub line_with : Heading → ℕ → Shelf → Shelf
line_with h count s = record { group = s.group; held = s.held + count; sealed = s.sealed || h.seals }
