use Rattle.std.specs.Prelude.{◌≡◌, ℕ, zero, suc, ◌*◌, ◌-◌, ◌≤◌, Bool, true, false, not, ◌&&◌, ◌==◌, nat_lt, nat_le, Option, Some, None, is_some, List, [], ◌∷◌, ◌++◌, filter, drop, reverse}
use Rattle.std.specs.List.{list_all}
use Rattle.oc_base.specs.declared.rank.Rank.{Rank}
use Rattle.oc_model.specs.declared.event.Act.TheVariants as acts
use Rattle.oc_model.specs.declared.input.Input.TheVariants as inputs
use Rattle.oc_model.specs.declared.mode.Mode.{Mode}
use Rattle.oc_model.specs.declared.mode.Mode.TheVariants.{Idle, Asking, Joined, Acting}
use Rattle.oc_model.specs.Chains.{IsUp, IsTrueChain, chain_to}
use Rattle.oc_model.specs.Plan.{is_member}
use Rattle.oc_model.specs.Ready.{IsLeased, is_leased}
use Rattle.oc_model.specs.Runs.{Run, rests, does, and_then, for_each, delivers_last}
use Rattle.oc_model.specs.Settle.{checks_in, first_five_steps, settles}
use Rattle.oc_model.specs.World.{World, node, mode_of, up_ids}
use Rattle.oc_model.specs.Numbers.{first_of, last_of}

-- Heal: joins every node that is up into one tree, and then settles.

-- The nodes concerned

-- x is a chain member
abbrev pub IsMember : World → ℕ → Type 0
IsMember w x = is_member (node w x).control ≡ true

-- the chain members that are up
abbrev pub up_members : World → List ℕ
up_members w = filter (λ x. is_member (node w x).control) (up_ids w)

-- the nodes past the chain that are up
abbrev pub up_others : World → List ℕ
up_others w = filter (λ x. not (is_member (node w x).control)) (up_ids w)

-- the least chain member that is up
abbrev pub leader : World → Option ℕ
leader w = first_of (up_members w)

abbrev pub epoch_in : Option Rank → ℕ
epoch_in None = 0
epoch_in (Some r) = r.epoch

-- the greatest ask number with which heal begins: far enough from the last one of 64 bits
abbrev pub most_seq : ℕ
most_seq = 18446744073709551615 - 64

-- the greatest epoch with which heal begins
abbrev pub most_epoch : ℕ
most_epoch = 18446744073709551615 - 8192

-- heal can do its work: some chain member is up, and no ask number or epoch of a node that is up is near its end
pub record IsAble (w : World) : Type 0 where
  pub member : (m : ℕ) × IsUp w m × IsMember w m
  pub seqs : (x : ℕ) → IsUp w x → (node w x).control.kept.seq ≤ most_seq
  pub epochs : (x : ℕ) → IsUp w x → epoch_in (node w x).control.kept.rank ≤ most_epoch

abbrev pub has_room : World → ℕ → Bool
has_room w x = nat_le (node w x).control.kept.seq most_seq && nat_le (epoch_in (node w x).control.kept.rank) most_epoch

abbrev pub is_able : World → Bool
is_able w = is_some (leader w) && list_all (has_room w) (up_ids w)

-- each node of a chain, from the first one up to the root, has a lease of its parent
abbrev pub AreLeased : World → List ℕ → Type 0
AreLeased w [] = Unit {0}
AreLeased w (r ∷ []) = Unit {0}
AreLeased w (x ∷ y ∷ ys) = IsLeased w x × AreLeased w (y ∷ ys)

-- the node is in place: it is the root m, or has a true chain to m on which each link has its lease
abbrev pub IsPlaced : World → ℕ → ℕ → Type 0
IsPlaced w m x = (c : List ℕ) × IsTrueChain w x m c × AreLeased w c

abbrev pub are_leased : World → List ℕ → Bool
are_leased w [] = true
are_leased w (r ∷ []) = true
are_leased w (x ∷ y ∷ ys) = is_leased w x && are_leased w (y ∷ ys)

abbrev pub placed_by : World → Option (List ℕ) → Bool
placed_by w None = false
placed_by w (Some c) = are_leased w c

abbrev pub is_placed : World → ℕ → ℕ → Bool
is_placed w m x = placed_by w (chain_to w m x)

-- Step 1: the least chain member that is up, m, comes to act as root

-- one act towards the root's place: an idle node checks, and any other node is told that its peer is unreachable
abbrev pub rises : Mode → ℕ → World → Run
rises Idle m w = does (acts.At m inputs.CheckNow) w
rises (Asking p) m w = does (acts.At m (inputs.Unreachable p)) w
rises (Joined p) m w = does (acts.At m (inputs.Unreachable p)) w
rises Acting m w = rests w

-- at most n such acts
abbrev pub rises_in : ℕ → ℕ → World → Run
rises_in zero m w = rests w
rises_in (suc n) m w = and_then (rises (mode_of w m) m w) (rises_in n m)

-- m becomes acting; it asks each earlier chain member at most twice
abbrev pub comes_to_act : ℕ → World → Run
comes_to_act m w = rises_in (2 * m) m w

-- Step 3: moves each node that is not in place to the chain member before it

-- x asks p, and p takes the ask
abbrev pub asks : ℕ → ℕ → World → Run
asks p x w = and_then (does (acts.At x (inputs.Relocate p)) w) delivers_last

-- x asks p, p takes the ask, and x takes the answer
abbrev pub joins : ℕ → ℕ → World → Run
joins p x w = and_then (asks p x w) delivers_last

abbrev pub top_down : Option (List ℕ) → List ℕ
top_down None = []
top_down (Some c) = drop 1 (reverse c)

-- the nodes below m on the true chain of p to m, from the top down
abbrev pub below : ℕ → ℕ → World → List ℕ
below m p w = top_down (chain_to w m p)

-- m raises its epoch, and tells its new rank down to p
abbrev pub tells_rank : ℕ → ℕ → World → Run
tells_rank m p w = and_then (does (acts.At m inputs.CheckNow) w) (λ v. for_each (below m p v) checks_in v)

-- x joins p after an ask at m, which raises m's rank where needed
abbrev pub joins_by : ℕ → ℕ → ℕ → World → Run
joins_by m p x w = and_then (and_then (asks m x w) (tells_rank m p)) (joins p x)

-- the greatest chain member that is up and has a smaller id than this node
abbrev pub member_before : World → ℕ → ℕ → ℕ
member_before w m x = last_of m (filter (λ p. nat_lt p x) (up_members w))

abbrev pub places_at : Bool → ℕ → ℕ → ℕ → World → Run
places_at true m p x w = joins m x w
places_at false m p x w = joins_by m p x w

abbrev pub places_under : ℕ → ℕ → ℕ → World → Run
places_under m p x w = places_at (p == m) m p x w

abbrev pub places_if : Bool → ℕ → ℕ → World → Run
places_if true m x w = rests w
places_if false m x w = places_under m (member_before w m x) x w

-- moves a node unless it is in place already
abbrev pub places : ℕ → ℕ → World → Run
places m x w = places_if (is_placed w m x) m x w

-- moves the chain members past m, and then the nodes past the chain
abbrev pub all_join : ℕ → World → Run
all_join m w = for_each (filter (nat_lt m) (up_members w) ++ up_others w) (places m) w

-- all steps of heal
abbrev pub heals : ℕ → World → Run
heals m w = and_then (and_then (and_then (comes_to_act m w) first_five_steps) (all_join m)) settles
