-- The element of a list at an index that was looked for, and all others.
use Rattle.std.specs.Prelude.{ℕ, Option, Some, None, List, remove, slice_get}

-- the element at this index, if there is one
abbrev pub element_at : {X : Type 0} → List X → Option ℕ → Option X
element_at xs None = None
element_at xs (Some index) = slice_get xs index

-- all elements but the one at this index
abbrev pub without_at : {X : Type 0} → List X → Option ℕ → List X
without_at xs None = xs
without_at xs (Some index) = remove xs index
