-- The effect of a call that plays acts.
use Rattle.std.specs.Prelude.{◌≡◌, ℕ, ◌+◌, Option, Some, None, List, [], ◌++◌, length}
use Rattle.oc_model.specs.declared.event.Act.{Act}
use Rattle.oc_model.specs.Runs.{Run, after_acts}
use Rattle.oc_model.specs.World.{World}

-- all acts of a run were played, from one world to the other, and a count of n acts became k
pub record Plays (run : World → Run) (w v : World) (n k : ℕ) : Type 0 where
  pub world : v ≡ (run w).world
  pub reached : v ≡ after_acts w (run w).acts
  pub count : k ≡ n + length (run w).acts

-- a prefix of these acts leads from one world to the other
pub record IsOnTheWay (all : List Act) (w v : World) : Type 0 where
  pub done : List Act
  pub rest : List Act
  pub whole : all ≡ done ++ rest
  pub reached : v ≡ after_acts w done

-- a prefix of the acts of a run was played. The count is left open, since a caller that meets this gives up and reports no count
pub record Begins (run : World → Run) (w v : World) : Type 0 where
  pub way : IsOnTheWay (run w).acts w v

-- the acts of a run, or no acts without one
abbrev pub acts_of : Option (List Act) → List Act
acts_of None = []
acts_of (Some done) = done
