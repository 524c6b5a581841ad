use Rattle.std.specs.Prelude.{◌≡◌, ℕ, List, ◌++◌, take}

-- A text of which a part was written.

-- some prefix of a list has this property
abbrev pub SomeFront : {A : Type 0} → List A → (List A → Type 0) → Type 0
SomeFront xs P = (n : ℕ) × P (take n xs)

-- a prefix of the gathered bytes was taken, and the rest is now gathered
pub record PassesOn (takes : List ℕ → Type 0) (old new : List ℕ) : Type 0 where
  pub front : List ℕ
  pub taken : takes front
  pub whole : old ≡ front ++ new
