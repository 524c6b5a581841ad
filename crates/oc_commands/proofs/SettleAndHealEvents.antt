-- The effect of settle and heal at each event of a schedule, from the laws on each of them.
use Rattle.std.proofs.Common.{◌≡◌, ◌↔◌, ℕ, Bool, true, false, Option, Some, None, List, [], ◌∷◌, refl}
use Rattle.oc_laws_tree.specs.Healing.{HealHeals, HealTakes, WhereAble}
use Rattle.oc_laws_tree.specs.Settling.{SettleLists, SettleSettles, SettleTakes, SettleTells}
use Rattle.oc_model.specs.Heal.{IsAble, is_able, leader}
use Rattle.oc_model.specs.NextWorld.{heal_acts_if, next_world, settle_acts_if, word_of, word_of_heal, word_of_settle, world_after}
use Rattle.oc_model.specs.Ready.{IsReady, is_ready}
use Rattle.oc_model.specs.World.{World}
use Rattle.oc_model.specs.declared.event.Event.{Event}
use Rattle.oc_model.specs.declared.event.Event.TheVariants.{Up, Crash, Stop, Do, Held, Show, Settle, Heal}
use Rattle.oc_model.specs.declared.word.Word.TheVariants.{Healed, Settled, Unready}
use Rattle.oc_commands.specs.SettleAndHeal.{AtEach, SettleAndHealHold, HealHolds, SettleHolds}

-- a property of any event after any others holds at each
pub at_each : (P : World → Event → Type 0) (w : World) → ((front : List Event) (e : Event) → P (world_after w front) e) → (es : List Event) → AtEach P w es
at_each P w each [] = tt
at_each P w each (e ∷ es) = (each [] e, at_each P (next_world w e) (λ front f. each (e ∷ front) f) es)

-- a settle that tells a number was in a ready world
ready_where_settled : (w : World) → (is_ready w ≡ true → IsReady w) → (n : ℕ) → word_of w Settle ≡ Settled n → IsReady w
ready_where_settled w tested n told = by_test (is_ready w) refl told where
  by_test : (b : Bool) → is_ready w ≡ b → word_of_settle (settle_acts_if b w) ≡ Settled n → IsReady w
  by_test true e told = tested e
  by_test false e told = absurd cc

-- a heal that tells a number was in an able world
able_where_healed : (w : World) → (is_able w ≡ true → IsAble w) → (n : ℕ) → word_of w Heal ≡ Healed n → IsAble w
able_where_healed w tested n told = by_test (is_able w) (leader w) refl told where
  by_test : (b : Bool) (m : Option ℕ) → is_able w ≡ b → word_of_heal (heal_acts_if b m w) ≡ Healed n → IsAble w
  by_test true (Some m) e told = tested e
  by_test true None e told = absurd cc
  by_test false m e told = absurd cc

-- a number that is told is the one that is said
same_settled : (w : World) (n k : ℕ) → word_of w Settle ≡ Settled n → word_of w Settle ≡ Settled k → n ≡ k
same_settled w n k told is = cc

same_healed : (w : World) (n k : ℕ) → word_of w Heal ≡ Healed n → word_of w Heal ≡ Healed k → n ≡ k
same_healed w n k told is = cc

-- the laws about a settle in this world
pub record SettleLaws (w : World) : Type 0 where
  pub tested : is_ready w ≡ true → IsReady w
  pub refused : (word_of w Settle ≡ Unready) ↔ (IsReady w → ⊥)
  pub unchanged : (IsReady w → ⊥) → next_world w Settle ≡ w
  pub settles : SettleSettles w
  pub tells : SettleTells w
  pub lists : SettleLists w
  pub takes : SettleTakes w

settle_holds : (w : World) → SettleLaws w → SettleHolds w
settle_holds w laws = record {
  refused = laws.refused;
  unchanged = λ unready. laws.unchanged (laws.refused.0 unready);
  exact = λ n told.
      let ready = ready_where_settled w laws.tested n told in
      record { settled = laws.settles ready; told = laws.tells ready; lists = (laws.lists ready).0; counts = (laws.lists ready).1 };
  number = λ n told. same_settled w n _ told (laws.takes (ready_where_settled w laws.tested n told));
}

-- the laws of a heal
pub record HealLaws (w : World) : Type 0 where
  pub tested : is_able w ≡ true → IsAble w
  pub refused : (word_of w Heal ≡ Unready) ↔ (IsAble w → ⊥)
  pub unchanged : (IsAble w → ⊥) → next_world w Heal ≡ w
  pub leads : IsAble w → (m : ℕ) × (leader w ≡ Some m)
  pub heals : HealHeals w
  pub takes : WhereAble HealTakes w

heal_holds : (w : World) → HealLaws w → HealHolds w
heal_holds w laws = record {
  refused = laws.refused;
  unchanged = λ unready. laws.unchanged (laws.refused.0 unready);
  settled = λ n told. let healed = laws.heals (able_where_healed w laws.tested n told) in (healed.0, healed.1);
  root = λ n told. (laws.heals (able_where_healed w laws.tested n told)).2;
  number = λ n told.
      let able = able_where_healed w laws.tested n told in
      let led = laws.leads able in
      (led.0, led.1, same_healed w n _ told (laws.takes led.0 able led.1));
}

-- settle and heal hold at each event
pub settle_and_heal_hold : (w : World) → SettleLaws w → HealLaws w → (e : Event) → SettleAndHealHold w e
settle_and_heal_hold w settle heal Settle = settle_holds w settle
settle_and_heal_hold w settle heal Heal = heal_holds w heal
settle_and_heal_hold w settle heal (Up x) = tt
settle_and_heal_hold w settle heal (Crash x) = tt
settle_and_heal_hold w settle heal (Stop calls image a) = tt
settle_and_heal_hold w settle heal (Do a) = tt
settle_and_heal_hold w settle heal (Held x) = tt
settle_and_heal_hold w settle heal (Show x) = tt
