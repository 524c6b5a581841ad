use Rattle.std.specs.Prelude.{◌≡◌, ℕ, Bool, true, false, not, ◌&&◌, ◌||◌, ◌==◌, Option, Some, None, is_some, find}
use Rattle.std.specs.List.{list_all}
use Rattle.oc_model.specs.declared.mode.Mode.{Mode}
use Rattle.oc_model.specs.declared.mode.Mode.TheVariants.{Joined}
use Rattle.oc_model.specs.Adopting.{is_acting, is_number}
use Rattle.oc_model.specs.Checking.{is_joined_to}
use Rattle.oc_model.specs.Chains.{IsUp, IsJoined, IsRoot, HasTrueChain, chain_to}
use Rattle.oc_model.specs.Records.{is_joined}
use Rattle.oc_model.specs.Table.{HasLease, leased_by}
use Rattle.oc_model.specs.ChangeLog.{IsWaiting}
use Rattle.oc_model.specs.World.{World, node, is_up, mode_of, ids}
use Rattle.oc_model.specs.Numbers.{is_empty}

-- The worlds in which settle works, and the worlds that it leaves.

-- p holds the lease of x at this number
abbrev pub HoldsLease : World → ℕ → ℕ → ℕ → Type 0
HoldsLease w p x seq = HasLease (node w p).control.kept.table p x seq

-- x is joined to a node that holds its lease at its present ask number
abbrev pub IsLeased : World → ℕ → Type 0
IsLeased w x = (p : ℕ) × IsJoined w x p × HoldsLease w p x (node w x).control.kept.seq

-- one node that is up acts as root; every other node that is up has a true chain to it, and a lease of its parent
pub record IsReadyUnder (w : World) (r : ℕ) : Type 0 where
  pub root : IsRoot w r
  pub alone : (x : ℕ) → IsRoot w x → x ≡ r
  pub chains : (x : ℕ) → IsUp w x → (x ≡ r → ⊥) → HasTrueChain w x r
  pub leases : (x : ℕ) → IsUp w x → (x ≡ r → ⊥) → IsLeased w x

abbrev pub IsReady : World → Type 0
IsReady w = (r : ℕ) × IsReadyUnder w r

-- a ready world with no stale lease, in which no certificate waits
pub record IsSettled (w : World) : Type 0 where
  pub ready : IsReady w
  pub leases : (y x seq : ℕ) → IsUp w y → HoldsLease w y x seq → IsUp w x × IsJoined w x y × ((node w x).control.kept.seq ≡ seq)
  pub told : (n p x : ℕ) → IsUp w n → IsJoined w n p → IsWaiting (node w n).control.kept.log x → ⊥

-- The same definitions, computed.

abbrev pub is_root : World → ℕ → Bool
is_root w x = is_up w x && is_acting (mode_of w x)

abbrev pub is_leased_as : World → ℕ → Mode → Bool
is_leased_as w x (Joined p) = is_number (leased_by (node w p).control.kept.table p x) (node w x).control.kept.seq
is_leased_as w x mode = false

abbrev pub is_leased : World → ℕ → Bool
is_leased w x = is_leased_as w x (mode_of w x)

-- whether this node is in place under the root r, as in a ready world
abbrev pub stands_under : World → ℕ → ℕ → Bool
stands_under w r x = not (is_up w x) || x == r || (is_some (chain_to w r x) && is_leased w x)

abbrev pub ready_under : World → Option ℕ → Bool
ready_under w None = false
ready_under w (Some r) = list_all (stands_under w r) (ids w)

abbrev pub is_ready : World → Bool
is_ready w = ready_under w (find (is_root w) (ids w))

-- whether a lease that y holds of x, if any, is of a node that is up and joined to y at that ask number
abbrev pub is_current : World → ℕ → ℕ → Option ℕ → Bool
is_current w y x None = true
is_current w y x (Some seq) = is_up w x && is_joined_to (mode_of w x) y && (node w x).control.kept.seq == seq

-- whether y holds no stale lease
abbrev pub holds_current : World → ℕ → Bool
holds_current w y = list_all (λ k. is_current w y k.subject (leased_by (node w y).control.kept.table y k.subject)) (node w y).control.kept.table

-- whether nothing waits at y; a node that is not joined has nobody to tell
abbrev pub has_told : World → ℕ → Bool
has_told w y = not (is_joined (mode_of w y)) || is_empty (node w y).control.kept.log.waiting

abbrev pub is_calm : World → ℕ → Bool
is_calm w y = not (is_up w y) || (holds_current w y && has_told w y)

abbrev pub is_settled : World → Bool
is_settled w = is_ready w && list_all (is_calm w) (ids w)
