-- Lists of items with names, ascending by name, and the index of a name in such a list.
use Rattle.std.specs.Prelude.{◌≡◌, ℕ, zero, suc, ◌<◌, Bool, true, false, List, [], ◌∷◌}
use Rattle.std.specs.List.{AllByRecursion}
use Rattle.std.specs.declared.cmp.Ordering.TheVariants.{Less, Greater}
use Rattle.std.specs.Ordering.{nat_cmp, is_eq}
use Rattle.std.specs.Cmp.Lexicographic.{slice_cmp}
use Rattle.oc_base.specs.declared.named.Lookup.{Lookup}
use Rattle.oc_base.specs.declared.named.Lookup.TheVariants.{Found, Free}

-- whether two names are equal
abbrev pub same_name : List ℕ → List ℕ → Bool
same_name a b = is_eq (slice_cmp nat_cmp a b)

-- all items have names greater than this one
abbrev pub AreAbove : {A : Type 0} → (A → List ℕ) → List ℕ → List A → Type 0
AreAbove name g xs = AllByRecursion (λ x. slice_cmp nat_cmp g (name x) ≡ Less) xs

-- each name is greater than those before it
abbrev pub AreAscending : {A : Type 0} → (A → List ℕ) → List A → Type 0
AreAscending name [] = Unit {0}
AreAscending name (x ∷ xs) = AreAbove name (name x) xs × AreAscending name xs

-- the name is at index i, after smaller names
abbrev pub IsFoundAt : {A : Type 0} → (A → List ℕ) → List A → List ℕ → ℕ → Type 0
IsFoundAt name [] g i = ⊥
IsFoundAt name (x ∷ xs) g zero = name x ≡ g
IsFoundAt name (x ∷ xs) g (suc i) = (slice_cmp nat_cmp g (name x) ≡ Greater) × IsFoundAt name xs g i

-- the name is absent and would be at index i, after the smaller names and before the greater ones
abbrev pub IsFreeAt : {A : Type 0} → (A → List ℕ) → List A → List ℕ → ℕ → Type 0
IsFreeAt name xs g zero = AreAbove name g xs
IsFreeAt name [] g (suc i) = ⊥
IsFreeAt name (x ∷ xs) g (suc i) = (slice_cmp nat_cmp g (name x) ≡ Greater) × IsFreeAt name xs g i

-- the result of a search for the name
abbrev pub LooksUp : {A : Type 0} → (A → List ℕ) → List A → List ℕ → Lookup → Type 0
LooksUp name xs g (Found i) = IsFoundAt name xs g i
LooksUp name xs g (Free i) = IsFreeAt name xs g i

-- whether the name is absent
abbrev pub is_free : Lookup → Bool
is_free (Found i) = false
is_free (Free i) = true

-- a name that is found has an index below n
abbrev pub IsThere : Lookup → ℕ → Type 0
IsThere (Found i) n = i < n
IsThere (Free i) n = Unit {0}
