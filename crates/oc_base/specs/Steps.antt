-- The operator `?` of definitions.
use Rattle.std.specs.Prelude.{Result, Ok, Err}

-- the second step, if the first gave a value
infixl 10 ◌>>=◌
abbrev pub ◌>>=◌ : {A B E : Type 0} → Result A E → (A → Result B E) → Result B E
Ok x >>= f = f x
Err e >>= f = Err e

-- the result with its fault replaced by another one, if it is a fault
abbrev pub map_fault : {A E F : Type 0} → (E → F) → Result A E → Result A F
map_fault f (Ok x) = Ok x
map_fault f (Err e) = Err (f e)

-- the result with this fault in place of any other
abbrev pub with_fault : {A E F : Type 0} → F → Result A E → Result A F
with_fault fault (Ok x) = Ok x
with_fault fault (Err e) = Err fault
