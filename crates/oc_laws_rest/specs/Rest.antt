use Rattle.std.specs.Prelude.{◌≡◌, ℕ, ◌+◌, ◌≤◌, ◌<◌, true, Some, None, List, map}
use Rattle.oc_model.specs.declared.event.Event.TheVariants.{Up}
use Rattle.oc_model.specs.declared.mode.Mode.TheVariants.{Asking}
use Rattle.oc_model.specs.Chains.{IsUp, IsJoined, true_line}
use Rattle.oc_model.specs.Checking.{is_peer}
use Rattle.oc_model.specs.ClaimsTree.{table_of, seq_of, IsTold}
use Rattle.oc_model.specs.Heal.{IsMember, epoch_in}
use Rattle.oc_model.specs.Leases.{lease_time}
use Rattle.oc_model.specs.NextWorld.{world_after}
use Rattle.oc_model.specs.Node.{Header}
use Rattle.oc_model.specs.Numbers.{at, number_end}
use Rattle.oc_model.specs.Plan.{rate_to}
use Rattle.oc_model.specs.Ready.{HoldsLease, IsReadyUnder, IsSettled}
use Rattle.oc_model.specs.Table.{table_line}
use Rattle.oc_model.specs.World.{World, node, mode_of, new_world}
use Rattle.oc_model.specs.WorldBounds.{clock_of}

-- Rest, and new networks.

-- the network is at rest under m: the least chain member that is up is the one root, each other node that is up has a true chain to it
-- and its leases, no lease is stale, nothing waits, parents know their children's own numbers, and the root lists exactly the live tree
pub record IsAtRest (w : World) (m : ℕ) : Type 0 where
  pub member : IsMember w m
  pub least : (x : ℕ) → IsUp w x → IsMember w x → m ≤ x
  pub ready : IsReadyUnder w m
  pub settled : IsSettled w
  pub told : IsTold w
  pub exact : (x : ℕ) → table_line (table_of w m) m x ≡ true_line w m x

-- the new network of this header in which these nodes were started, and nothing else has happened
abbrev pub begun : Header → List ℕ → World
begun h xs = world_after (new_world h) (map (λ x. Up x) xs)

-- m is up, and no other chain member is
pub record IsOnlyMember (w : World) (m : ℕ) : Type 0 where
  pub up : IsUp w m
  pub member : IsMember w m
  pub only : (x : ℕ) → IsUp w x → IsMember w x → x ≡ m

-- m is up, and no chain member before it is
pub record IsLeastMember (w : World) (m : ℕ) : Type 0 where
  pub up : IsUp w m
  pub member : IsMember w m
  pub least : (x : ℕ) → IsUp w x → IsMember w x → m ≤ x

-- no node that is up asks a node that is down, or is joined to one
abbrev pub PeersAreUp : World → Type 0
PeersAreUp w = (x p : ℕ) → IsUp w x → is_peer (mode_of w x) p ≡ true → IsUp w p

-- no node that is up waits for an answer to an ask
abbrev pub NobodyAsks : World → Type 0
NobodyAsks w = (x p : ℕ) → IsUp w x → mode_of w x ≡ Asking p → ⊥

-- x is a child of p with all its time: p is up, and holds the lease of x at x's ask number until a lease's time from now
pub record IsChild (w : World) (p x : ℕ) : Type 0 where
  pub parent : IsUp w p
  pub lease : HoldsLease w p x (seq_of w x)
  pub end : at (node w p).control.leases x None ≡ Some (clock_of w p + lease_time)

-- each node that is up and joined is such a child
abbrev pub JoinedAreLeased : World → Type 0
JoinedAreLeased w = (x p : ℕ) → IsUp w x → IsJoined w x p → IsChild w p x

-- x is past the chain, and has measured no way
pub record IsUnmeasured (w : World) (x : ℕ) : Type 0 where
  pub past : IsMember w x → ⊥
  pub rates : (y : ℕ) → rate_to (node w x).control y ≡ 0

-- each lease that m holds is of a node that is up
abbrev pub LeasesAreOfUp : World → ℕ → Type 0
LeasesAreOfUp w m = (x s : ℕ) → HoldsLease w m x s → IsUp w x

-- no node that is up has measured a way
abbrev pub NobodyMeasured : World → Type 0
NobodyMeasured w = (x y : ℕ) → IsUp w x → rate_to (node w x).control y ≡ 0

-- each node that is up has ask numbers left, and epochs
abbrev pub HaveRoom : World → Type 0
HaveRoom w = (x : ℕ) → IsUp w x → (seq_of w x < number_end) × (epoch_in (node w x).control.kept.rank < number_end)

-- each lease that a node that is up holds is of a node that is up, and is joined to it by that ask number
abbrev pub LeasesAreCurrent : World → Type 0
LeasesAreCurrent w = (y x s : ℕ) → IsUp w y → HoldsLease w y x s → IsUp w x × IsJoined w x y × (seq_of w x ≡ s)
