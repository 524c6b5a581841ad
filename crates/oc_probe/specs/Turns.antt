-- The peers of a node, in turn.
use Rattle.std.specs.Prelude.{ℕ, ◌+◌, ◌==◌, Option, Some, None, List, [], ◌∷◌, ◌++◌, if◌then◌else◌}

-- the ids, but this one, of the places that hold something, where the first place is that of an id
abbrev pub peers_from : {A : Type 0} → ℕ → ℕ → List (Option A) → List ℕ
peers_from me id [] = []
peers_from me id (None ∷ places) = peers_from me (id + 1) places
peers_from me id (Some x ∷ places) = if id == me then peers_from me (id + 1) places else id ∷ peers_from me (id + 1) places

-- the other nodes whose place, by their ids, holds something, ascending
abbrev pub peers_of : {A : Type 0} → ℕ → List (Option A) → List ℕ
peers_of me places = peers_from me 1 places

-- the first one comes last
abbrev pub turned : List ℕ → List ℕ
turned [] = []
turned (id ∷ rest) = rest ++ id ∷ []

-- the peers in the order in which they come
pub record RotationView : Type 0 where
  pub coming : List ℕ
