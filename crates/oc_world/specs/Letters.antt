-- The letters of the net, whose last bytes may be shared.
use Rattle.std.specs.Prelude.{◌≡◌, ℕ, ◌+◌, ◌<◌, ◌≤◌, List, [], ◌++◌, length, take, drop, get_or, map}
use Rattle.oc_world.specs.declared.letter.Letter.{Letter}
use Rattle.oc_world.specs.declared.letter.Letter.TheVariants.{Alone, Shared}
use Rattle.oc_world.specs.declared.pools.PoolPart.{PoolPart}
use Rattle.oc_world.specs.declared.pools.Pool.{Pool}

-- the bytes of these pools
abbrev pub contents : List Pool → List (List ℕ)
contents pools = map (λ p. p.bytes) pools

-- the bytes at a place
abbrev pub piece : List (List ℕ) → PoolPart → List ℕ
piece pools p = take p.count (drop p.start (get_or pools p.pool []))

-- a place lies within its pool
pub record IsWithin (pools : List (List ℕ)) (p : PoolPart) : Type 0 where
  pub there : p.pool < length pools
  pub fits : p.start + p.count ≤ length (get_or pools p.pool [])

-- the bytes at each place are unchanged
abbrev pub KeepsPlaces : List (List ℕ) → List (List ℕ) → Type 0
KeepsPlaces old new = (p : PoolPart) → IsWithin old p → IsWithin new p × (piece new p ≡ piece old p)

-- the first of these bytes are held from an offset on, as many as are known; with the others after all that is held, all are
pub record IsKnown (held : List ℕ) (start : ℕ) (bytes : List ℕ) (known : ℕ) : Type 0 where
  pub few : known ≤ length bytes
  pub fits : start + length bytes ≤ length (held ++ drop known bytes)
  pub same : take (length bytes) (drop start (held ++ drop known bytes)) ≡ bytes

-- the bytes of a letter
abbrev pub whole : List (List ℕ) → Letter → List ℕ
whole pools (Alone bytes) = bytes
whole pools (Shared s) = s.value.front ++ piece pools s.value.place

-- the shared part of a letter is in the pools
abbrev pub IsPlaced : List (List ℕ) → Letter → Type 0
IsPlaced pools (Alone bytes) = Unit {0}
IsPlaced pools (Shared s) = IsWithin pools s.value.place
