-- The lease ends, as a contract sees them.
use Rattle.std.specs.Prelude.{ℕ, Option, List}

-- the second at which each node's lease ends, by its number, if it is set, and the number of ends for which there is memory
pub record LeasesView : Type 0 where
  pub ends : List (Option ℕ)
  pub room : ℕ
