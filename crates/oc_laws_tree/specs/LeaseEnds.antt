use Rattle.std.specs.Prelude.{◌≡◌, ℕ, ◌<◌, Some, None}
use Rattle.oc_model.specs.Chains.{IsUp}
use Rattle.oc_model.specs.Numbers.{at}
use Rattle.oc_model.specs.Ready.{HoldsLease}
use Rattle.oc_model.specs.World.{World, node}
use Rattle.oc_model.specs.WorldBounds.{clock_of}

-- each lease end of a leased child of a node that is up is later than that node's clock
abbrev pub LeaseEndsLieAhead : World → Type 0
LeaseEndsLieAhead w = (y x s end : ℕ) → IsUp w y → HoldsLease w y x s → at (node w y).control.leases x None ≡ Some end → clock_of w y < end
