use Rattle.std.specs.Prelude.{ℕ, Bool, true, not, ◌&&◌, ◌||◌, ◌==◌, if◌then◌else◌, Option, Some, None, List, [], ◌∷◌}
use Rattle.oc_model.specs.Numbers.{at}
use Rattle.oc_model.specs.Selected.{is_freer}

-- The best of the servers, compared one after another.

-- whether x is in the area
abbrev pub is_near : List ℕ → ℕ → ℕ → Bool
is_near areas area x = at areas x 0 == area

-- whether x is better than y: x is in the area and y is not, or they are alike in this and x is freer
abbrev pub is_better : List ℕ → List ℕ → ℕ → ℕ → ℕ → Bool
is_better areas counts area x y =
    if is_near areas area x then not (is_near areas area y) || is_freer counts x y
    else not (is_near areas area y) && is_freer counts x y

-- whether x is better than the best so far; any x is, where there is none yet
abbrev pub beats : (ℕ → ℕ → Bool) → ℕ → Option ℕ → Bool
beats better x None = true
beats better x (Some b) = better x b

-- the better of two nodes
abbrev pub better_of : (ℕ → ℕ → Bool) → ℕ → ℕ → ℕ
better_of better b x = if better x b then x else b

-- the better of a node and the best of the rest
abbrev pub with_best : (ℕ → ℕ → Bool) → ℕ → Option ℕ → ℕ
with_best better x None = x
with_best better x (Some y) = better_of better x y

-- the best of these nodes
abbrev pub best_of : (ℕ → ℕ → Bool) → List ℕ → Option ℕ
best_of better [] = None
best_of better (x ∷ xs) = Some (with_best better x (best_of better xs))

-- the better of the best so far and the best of the rest
abbrev pub with_rest : (ℕ → ℕ → Bool) → Option ℕ → Option ℕ → Option ℕ
with_rest better None rest = rest
with_rest better (Some b) rest = Some (with_best better b rest)
