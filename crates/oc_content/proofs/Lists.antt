-- Lists: a change or an insert at an index.
use Rattle.std.proofs.Common.{◌≡◌, ℕ, zero, suc, ◌<◌, ◌≤◌, List, [], ◌∷◌, length, get_or, map, insert, set, refl, sym, ap, ◌∙◌, arith}
use Rattle.oc_content.specs.Indexes.{changed}

-- a change keeps the length
pub length-changed : {X : Type 0} (f : X → X) (i : ℕ) (xs : List X) → length (changed f i xs) ≡ length xs
length-changed f zero [] = refl
length-changed f (suc i) [] = refl
length-changed f zero (x ∷ xs) = refl
length-changed f (suc i) (x ∷ xs) = ap suc (length-changed f i xs)

-- a write of a mapped value is the map of a change
pub map-set_changed : {X Y : Type 0} (m : X → Y) (f : Y → Y) (i : ℕ) (xs : List X) (x y : X) → i < length xs → x ≡ get_or xs i x → m y ≡ f (m x) → map m (set xs i y) ≡ changed f i (map m xs)
map-set_changed m f i [] x y h e is = absurd (omega (arith, h))
map-set_changed m f zero (z ∷ xs) x y h e is = ap (λ w. w ∷ map m xs) (is ∙ ap (λ v. f (m v)) e)
map-set_changed m f (suc i) (z ∷ xs) x y h e is = ap (λ l. m z ∷ l) (map-set_changed m f i xs x y (omega (arith, h)) e is)

-- a write of an item with the same mapped value
pub map-set_same : {X Y : Type 0} (m : X → Y) (i : ℕ) (xs : List X) (x y : X) → x ≡ get_or xs i x → m y ≡ m x → map m (set xs i y) ≡ map m xs
map-set_same m i [] x y e is = refl
map-set_same m zero (z ∷ xs) x y e is = ap (λ w. w ∷ map m xs) (is ∙ ap m e)
map-set_same m (suc i) (z ∷ xs) x y e is = ap (λ l. m z ∷ l) (map-set_same m i xs x y e is)

-- an insert seen through a map
pub map-insert : {X Y : Type 0} (m : X → Y) (i : ℕ) (xs : List X) (y : X) → map m (insert xs i y) ≡ insert (map m xs) i (m y)
map-insert m zero xs y = refl
map-insert m (suc i) [] y = refl
map-insert m (suc i) (x ∷ xs) y = ap (λ l. m x ∷ l) (map-insert m i xs y)

-- an insert within the list makes it longer by one
pub length_insert : {X : Type 0} (i : ℕ) (xs : List X) (y : X) → length (insert xs i y) ≡ suc (length xs)
length_insert zero xs y = refl
length_insert (suc i) [] y = refl
length_insert (suc i) (x ∷ xs) y = ap suc (length_insert i xs y)

-- the item at an index after a write, through a map
pub get_or-map_set : {X Y : Type 0} (m : X → Y) (i : ℕ) (xs : List X) (y : X) (d : Y) → i < length xs → get_or (map m (set xs i y)) i d ≡ m y
get_or-map_set m i [] y d h = absurd (omega (arith, h))
get_or-map_set m zero (x ∷ xs) y d h = refl
get_or-map_set m (suc i) (x ∷ xs) y d h = get_or-map_set m i xs y d (omega (arith, h))

-- a write of an item whose number is no smaller
pub get_or-map_set_least : {X : Type 0} (m : X → ℕ) (i : ℕ) (xs : List X) (x y : X) → x ≡ get_or xs i x → m x ≤ m y → (k : ℕ) → get_or (map m xs) k 0 ≤ get_or (map m (set xs i y)) k 0
get_or-map_set_least m i [] x y e h k = omega arith
get_or-map_set_least m zero (z ∷ xs) x y e h zero = omega (arith, h, ap m e)
get_or-map_set_least m zero (z ∷ xs) x y e h (suc k) = omega arith
get_or-map_set_least m (suc i) (z ∷ xs) x y e h zero = omega arith
get_or-map_set_least m (suc i) (z ∷ xs) x y e h (suc k) = get_or-map_set_least m i xs x y e h k

-- the item at an index, through a map
pub map_at : {X Y : Type 0} (m : X → Y) (xs : List X) (i : ℕ) (x : X) (d : Y) → i < length xs → x ≡ get_or xs i x → get_or (map m xs) i d ≡ m x
map_at m [] i x d h e = absurd (omega (arith, h))
map_at m (y ∷ xs) zero x d h e = ap m (sym e)
map_at m (y ∷ xs) (suc i) x d h e = map_at m xs i x d (omega (arith, h)) e
