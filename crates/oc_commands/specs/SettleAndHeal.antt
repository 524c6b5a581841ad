-- The statements of the headline about settle and heal, in the world in which the event comes.
use Rattle.std.specs.Prelude.{◌≡◌, ◌↔◌, ℕ, Some, List, [], ◌∷◌}
use Rattle.oc_laws_tree.specs.Healing.{IsLeast, acts_to_heal}
use Rattle.oc_laws_tree.specs.Settling.{CountsExactly, acts_to_settle}
use Rattle.oc_laws_tree.specs.Listing.{ListsExactly}
use Rattle.oc_model.specs.Chains.{IsRoot}
use Rattle.oc_model.specs.ClaimsTree.{IsTold}
use Rattle.oc_model.specs.Heal.{IsAble, leader}
use Rattle.oc_model.specs.NextWorld.{next_world, word_of}
use Rattle.oc_model.specs.Ready.{IsReady, IsSettled}
use Rattle.oc_model.specs.World.{World}
use Rattle.oc_model.specs.declared.event.Event.{Event}
use Rattle.oc_model.specs.declared.event.Event.TheVariants.{Settle, Heal}
use Rattle.oc_model.specs.declared.word.Word.TheVariants.{Healed, Settled, Unready}

-- the world is settled, parents know their children's last numbers, and the root lists exactly the live tree, with each node's own
-- number and client count
pub record IsSettledAndListed (w : World) : Type 0 where
  pub settled : IsSettled w
  pub told : IsTold w
  pub lists : ListsExactly w
  pub counts : CountsExactly w

-- settle is refused exactly where the world is not ready, and then nothing changes; after `settled n` the world is settled and listed,
-- and n is the stated number of acts
pub record SettleHolds (w : World) : Type 0 where
  pub refused : (word_of w Settle ≡ Unready) ↔ (IsReady w → ⊥)
  pub unchanged : word_of w Settle ≡ Unready → next_world w Settle ≡ w
  pub exact : (n : ℕ) → word_of w Settle ≡ Settled n → IsSettledAndListed (next_world w Settle)
  pub number : (n : ℕ) → word_of w Settle ≡ Settled n → n ≡ acts_to_settle w

-- heal is refused exactly where the world is not able, and then nothing changes; after `healed n` the world is settled, parents know
-- their children's last numbers, the least chain member that is up is the root, and n is the stated number of acts
pub record HealHolds (w : World) : Type 0 where
  pub refused : (word_of w Heal ≡ Unready) ↔ (IsAble w → ⊥)
  pub unchanged : word_of w Heal ≡ Unready → next_world w Heal ≡ w
  pub settled : (n : ℕ) → word_of w Heal ≡ Healed n → IsSettled (next_world w Heal) × IsTold (next_world w Heal)
  pub root : (n : ℕ) → word_of w Heal ≡ Healed n → (m : ℕ) × IsLeast w m × IsRoot (next_world w Heal) m
  pub number : (n : ℕ) → word_of w Heal ≡ Healed n → (m : ℕ) × (leader w ≡ Some m) × (n ≡ acts_to_heal w m)

-- the properties if an event comes in this world
abbrev pub SettleAndHealHold : World → Event → Type 0
SettleAndHealHold w Settle = SettleHolds w
SettleAndHealHold w Heal = HealHolds w
SettleAndHealHold w e = Unit {0}

-- a statement at each of these events, in the world to which the earlier ones lead
abbrev pub AtEach : (World → Event → Type 0) → World → List Event → Type 0
AtEach P w [] = Unit {0}
AtEach P w (e ∷ es) = P w e × AtEach P (next_world w e) es
