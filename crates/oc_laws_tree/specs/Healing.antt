use Rattle.std.specs.Prelude.{◌≡◌, ℕ, ◌+◌, ◌*◌, ◌≤◌, not, nat_lt, Some, List, [], ◌∷◌, ◌++◌, filter, length}
use Rattle.oc_model.specs.declared.event.Event.TheVariants.{Heal}
use Rattle.oc_model.specs.declared.word.Word.TheVariants.{Healed}
use Rattle.oc_model.specs.Chains.{IsUp, IsJoined, IsRoot}
use Rattle.oc_model.specs.ClaimsTree.{seq_of, IsTold}
use Rattle.oc_model.specs.Heal.{IsMember, up_members, up_others, leader, IsAble, IsPlaced, is_placed, comes_to_act, places, all_join}
use Rattle.oc_model.specs.NextWorld.{next_world, word_of}
use Rattle.oc_model.specs.Ready.{HoldsLease, IsReadyUnder, IsSettled}
use Rattle.oc_model.specs.Settle.{first_five_steps, settles}
use Rattle.oc_model.specs.World.{World, up_ids}
use Rattle.oc_laws_tree.specs.Settling.{acts_to_settle}

-- The world after heal, and after each of its steps.

-- m is the least chain member that is up
pub record IsLeast (w : World) (m : ℕ) : Type 0 where
  pub up : IsUp w m
  pub member : IsMember w m
  pub least : (x : ℕ) → IsUp w x → IsMember w x → m ≤ x

-- heal leaves an able world settled: parents know their children's own numbers, and the least chain member that is up is root
abbrev pub HealHeals : World → Type 0
HealHeals w = IsAble w → IsSettled (next_world w Heal) × IsTold (next_world w Heal) × ((m : ℕ) × IsLeast w m × IsRoot (next_world w Heal) m)

-- The steps of heal

-- the worlds after the first three steps, with m as leader
abbrev pub behind_one : World → ℕ → World
behind_one w m = (comes_to_act m w).world

abbrev pub behind_two : World → ℕ → World
behind_two w m = (first_five_steps (behind_one w m)).world

abbrev pub behind_three : World → ℕ → World
behind_three w m = (all_join m (behind_two w m)).world

-- the nodes of step 3: the chain members past m, and then the nodes past the chain
abbrev pub nodes_to_place : World → ℕ → List ℕ
nodes_to_place w m = filter (nat_lt m) (up_members w) ++ up_others w

-- after step 1 m acts as root; the step takes at most 2m acts
pub record DoesStepOne (w : World) (m : ℕ) : Type 0 where
  pub root : IsRoot (behind_one w m) m
  pub few : length (comes_to_act m w).acts ≤ 2 * m

-- after step 2 a node that is up holds a lease only if the child is up and joined to it at that ask number; the step takes at most nine
-- acts for each node that is up
pub record DoesStepTwo (w : World) (m : ℕ) : Type 0 where
  pub leases : (y x seq : ℕ) → IsUp (behind_two w m) y → HoldsLease (behind_two w m) y x seq → IsUp (behind_two w m) x × IsJoined (behind_two w m) x y × (seq_of (behind_two w m) x ≡ seq)
  pub few : length (first_five_steps (behind_one w m)).acts ≤ 9 * length (up_ids w)

-- the turn of x in step 3: x is in place then, and so is every node that was before, with its parent; a node in place takes no act
pub record PlacesOne (w : World) (m x : ℕ) : Type 0 where
  pub placed : IsPlaced (places m x w).world m x
  pub kept : (y : ℕ) → IsPlaced w m y → IsPlaced (places m x w).world m y
  pub parents : (y p : ℕ) → IsPlaced w m y → IsJoined w y p → IsJoined (places m x w).world y p
  pub few : length (places m x w).acts ≤ 51
  pub none : IsPlaced w m x → length (places m x w).acts ≡ 0

-- the property holds at the turn of each of these nodes
abbrev pub PlacesEach : World → ℕ → List ℕ → Type 0
PlacesEach w m [] = Unit {0}
PlacesEach w m (x ∷ xs) = PlacesOne w m x × PlacesEach (places m x w).world m xs

-- the nodes that are up and not in place
abbrev pub unplaced : World → ℕ → List ℕ
unplaced w m = filter (λ x. not (is_placed w m x)) (up_ids w)

-- after step 3 each node is in place; the step takes at most 51 acts for each that was not, and at most two asks of each
pub record DoesStepThree (w : World) (m : ℕ) : Type 0 where
  pub each : PlacesEach (behind_two w m) m (nodes_to_place (behind_two w m) m)
  pub all : (x : ℕ) → IsUp (behind_three w m) x → IsPlaced (behind_three w m) m x
  pub asks : (x : ℕ) → seq_of (behind_three w m) x ≤ seq_of (behind_two w m) x + 2
  pub few : length (all_join m (behind_two w m)).acts ≤ 51 * length (unplaced (behind_two w m) m)

-- after these three steps the world is ready under m, so that step 4 settles it
pub record DoesStepFour (w : World) (m : ℕ) : Type 0 where
  pub ready : IsReadyUnder (behind_three w m) m
  pub settles : next_world w Heal ≡ (settles (behind_three w m)).world

-- the number of the acts of heal: those of its four steps, the last of which is settle
abbrev pub acts_to_heal : World → ℕ → ℕ
acts_to_heal w m =
    length (comes_to_act m w).acts + length (first_five_steps (behind_one w m)).acts + length (all_join m (behind_two w m)).acts + acts_to_settle (behind_three w m)

-- the property holds of an able world and its leader
abbrev pub WhereAble : (World → ℕ → Type 0) → World → Type 0
WhereAble P w = (m : ℕ) → IsAble w → leader w ≡ Some m → P w m

abbrev pub HealTakes : World → ℕ → Type 0
HealTakes w m = word_of w Heal ≡ Healed (acts_to_heal w m)
