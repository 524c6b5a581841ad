use Rattle.std.specs.Prelude.{◌≡◌, ℕ, ◌+◌, ◌-◌, Bool, true, false, ◌||◌, ◌==◌, min, if◌then◌else◌, Option, Some, None, List, [], ◌∷◌, ◌⊎◌, get_or, set}

-- Numbers of 64 bits, lists of ids, and lists by the number of a node.

-- the greatest number of 64 bits
abbrev pub number_end : ℕ
number_end = 18446744073709551615

-- the next number, or none after the greatest
abbrev pub raise : ℕ → Option ℕ
raise e = if e == number_end then None else Some (e + 1)

-- the number, or the greatest of 64 bits where it is past that
abbrev pub capped : ℕ → ℕ
capped n = min number_end n

-- x is an item of the list
abbrev pub IsAmong : {X : Type 0} → X → List X → Type 0
IsAmong x [] = ⊥
IsAmong x (y ∷ ys) = (y ≡ x) ⊎ IsAmong x ys

-- whether the list is empty
abbrev pub is_empty : {X : Type 0} → List X → Bool
is_empty [] = true
is_empty (x ∷ xs) = false

-- the first item
abbrev pub first_of : {X : Type 0} → List X → Option X
first_of [] = None
first_of (x ∷ xs) = Some x

-- the last item of x and the list
abbrev pub last_of : {X : Type 0} → X → List X → X
last_of x [] = x
last_of x (y ∷ ys) = last_of y ys

-- whether x is in the list
abbrev pub has : List ℕ → ℕ → Bool
has [] x = false
has (y ∷ ys) x = y == x || has ys x

-- the item for the node x in a list by number, where node 1 has the first item; the last argument where the list is too short
abbrev pub at : {X : Type 0} → List X → ℕ → X → X
at xs x d = get_or xs (x - 1) d

-- the list with v for the node x
abbrev pub put_at : {X : Type 0} → List X → ℕ → X → List X
put_at xs x v = set xs (x - 1) v
