-- Slots, as a contract sees them.
use Rattle.std.specs.Prelude.{ℕ, ◌-◌, List, ◌++◌, length, replicate}

-- the value at each slot; the number of slots in use, from the first on; the value of all others; the number of slots in memory
pub record SlotsView (X : Type 0) : Type 0 where
  pub items : List X
  pub used : ℕ
  pub blank : X
  pub room : ℕ

-- the written values, filled up with the blank value to this length
abbrev pub filled_up : {X : Type 0} → ℕ → X → List X → List X
filled_up count blank written = written ++ replicate (count - length written) blank
