-- The live tree by the number of nodes of each true chain.
use Rattle.std.specs.Prelude.{◌≡◌, ℕ, zero, suc, ◌<◌, Bool, true, false, not, ◌&&◌, ◌||◌, ◌==◌, Option, Some, None, ◌⊎◌, List, length, if◌then◌else◌}
use Rattle.oc_model.specs.declared.mode.Mode.{Mode}
use Rattle.oc_model.specs.declared.mode.Mode.TheVariants.{Joined}
use Rattle.oc_model.specs.Adopting.{is_acting, is_number}
use Rattle.oc_model.specs.Chains.{chain_from}
use Rattle.oc_model.specs.Numbers.{at}
use Rattle.oc_model.specs.Ready.{is_root}
use Rattle.oc_model.specs.Table.{leased_by}
use Rattle.oc_model.specs.World.{World, node, ids, is_up, mode_of}
use Rattle.oc_calm.specs.Cluster.{IsNodeOf}

-- the parent of a node that is up and joined
abbrev pub parent_as : Bool → Mode → Option ℕ
parent_as true (Joined p) = Some p
parent_as up mode = None

unfoldable pub parent_of : World → ℕ → Option ℕ
parent_of w x = parent_as (is_up w x) (mode_of w x)

abbrev pub nodes_in : Option (List ℕ) → ℕ
nodes_in None = 0
nodes_in (Some c) = length c

-- the number of nodes of x's true chain; 0 if it has none
unfoldable pub chain_length : World → ℕ → ℕ
chain_length w x = nodes_in (chain_from w x)

-- the number of nodes of the true chain of a node without a parent
unfoldable pub length_alone : World → ℕ → ℕ
length_alone w x = if is_root w x then 1 else 0

-- the node k links above x
abbrev pub above_of : (ℕ → Option ℕ) → Option ℕ → Option ℕ
above_of up None = None
above_of up (Some p) = up p

unfoldable pub above : World → ℕ → ℕ → Option ℕ
above w zero x = Some x
above w (suc k) x = above_of (above w k) (parent_of w x)

-- the node `steps` links above x has a true chain of this length
pub record EndsAt (w : World) (x steps nodes : ℕ) : Type 0 where
  pub top : ℕ
  pub above : above w steps x ≡ Some top
  pub length : nodes ≡ chain_length w top

-- The known lengths of the nodes' chains, by the number of the node

-- the known length of x, if any, is that of its true chain
abbrev pub IsFound : World → ℕ → Option ℕ → Type 0
IsFound w x None = Unit {0}
IsFound w x (Some n) = n ≡ chain_length w x

pub record AreFound (w : World) (lengths : List (Option ℕ)) : Type 0 where
  pub places : length lengths ≡ length (ids w)
  pub found : (y : ℕ) → IsNodeOf w y → IsFound w y (at lengths y None)

-- y is fewer than k links above x, and is noted to have no chain
pub record IsOnWay (w : World) (k x y : ℕ) (found : Option ℕ) : Type 0 where
  pub links : ℕ
  pub fewer : links < k
  pub above : above w links x ≡ Some y
  pub noted : found ≡ Some 0

-- all known lengths are right, except for nodes on the way up from x by k links
pub record AreFoundBut (w : World) (k x : ℕ) (lengths : List (Option ℕ)) : Type 0 where
  pub places : length lengths ≡ length (ids w)
  pub found : (y : ℕ) → IsNodeOf w y → IsFound w y (at lengths y None) ⊎ IsOnWay w k x y (at lengths y None)

-- the length of x is known
abbrev pub IsKnown : List (Option ℕ) → ℕ → Type 0
IsKnown lengths x = (n : ℕ) × (at lengths x None ≡ Some n)

-- the lengths that were known still are
pub record KeepKnown (old new : List (Option ℕ)) : Type 0 where
  pub known : (y : ℕ) → IsKnown old y → IsKnown new y

-- all lengths are known and right
pub record AreLengths (w : World) (lengths : List (Option ℕ)) : Type 0 where
  pub places : length lengths ≡ length (ids w)
  pub found : (y : ℕ) → IsNodeOf w y → at lengths y None ≡ Some (chain_length w y)

-- Ready worlds

-- x is joined to a node that is up and holds its lease
abbrev pub is_linked_as : World → ℕ → Mode → Bool
is_linked_as w x (Joined p) = is_up w p && is_number (leased_by (node w p).control.kept.table p x) (node w x).control.kept.seq
is_linked_as w x mode = false

abbrev pub is_linked : World → ℕ → Bool
is_linked w x = is_linked_as w x (mode_of w x)

abbrev pub is_positive : ℕ → Bool
is_positive zero = false
is_positive (suc n) = true

-- under the root r, a node is as in a ready world: down, or the root, or not acting and with a true chain and a lease of its parent
unfoldable pub fits_under : World → ℕ → ℕ → Bool
fits_under w r x = not (is_up w x) || x == r || (not (is_acting (mode_of w x)) && is_positive (chain_length w x) && is_linked w x)
