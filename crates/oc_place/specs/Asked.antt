use Rattle.std.specs.Prelude.{◌≢◌, ℕ, ◌<◌, ◌≤◌, ◌⊎◌, Option, Some, List, [], ◌∷◌}
use Rattle.oc_model.specs.Numbers.{IsAmong}

-- The nodes that a node asks for a place, as facts.

-- no id occurs twice
abbrev pub IsOnce : List ℕ → Type 0
IsOnce [] = Unit {0}
IsOnce (x ∷ xs) = (¬ IsAmong x xs) × IsOnce xs

-- the nodes that a node may ask: a chain member the members before it, and any other node its ancestors and all members
abbrev pub MayBeAsked : ℕ → ℕ → List ℕ → ℕ → Type 0
MayBeAsked me chain ancestors x =
    ((me ≤ chain) × (1 ≤ x) × (x < me))
    ⊎ ((chain < me) × (IsAmong x ancestors ⊎ ((1 ≤ x) × (x ≤ chain))))

-- x is neither the asker nor the node that is left out
abbrev pub IsNotLeftOut : ℕ → Option ℕ → ℕ → Type 0
IsNotLeftOut me without x = (x ≢ me) × (without ≢ Some x)
