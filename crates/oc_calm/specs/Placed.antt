-- The nodes that are known to be in place, by the number of the node.
use Rattle.std.specs.Prelude.{◌≡◌, ℕ, true, false, Bool, List, length, get_or}
use Rattle.oc_model.specs.Numbers.{at}
use Rattle.oc_model.specs.World.{World, ids}
use Rattle.oc_calm.specs.Cluster.{IsNodeOf}
use Rattle.oc_calm.specs.Played.{is_placed_under}

-- each node that is known to be in place is so, under m
pub record ArePlaced (w : World) (m : ℕ) (known : List Bool) : Type 0 where
  pub places : length known ≡ length (ids w)
  pub placed : (x : ℕ) → IsNodeOf w x → at known x false ≡ true → is_placed_under w m x ≡ true

-- no node is known to be in place
pub record IsForgotten (known : List Bool) : Type 0 where
  pub none : (k : ℕ) → get_or known k false ≡ false
