-- The refusals of settle and heal, and their effects otherwise.
use Rattle.std.proofs.Common.{◌≡◌, ◌↔◌, ℕ, Bool, true, false, Option, Some, None, is_some, length, refl, sym}
use Rattle.std.specs.List.{list_all}
use Rattle.std.proofs.lemmas.Bool.{and_parts}
use Rattle.oc_model.specs.declared.event.Event.TheVariants.{Settle, Heal}
use Rattle.oc_model.specs.declared.word.Word.TheVariants.{Unready, Settled, Healed}
use Rattle.oc_model.specs.Heal.{IsAble, is_able, has_room, leader, heals}
use Rattle.oc_model.specs.NextWorld.{next_world, word_of, settle_acts_if, heal_acts_if, after_any, word_of_settle, word_of_heal}
use Rattle.oc_model.specs.Ready.{IsReady, is_ready}
use Rattle.oc_model.specs.Settle.{settles}
use Rattle.oc_model.specs.World.{World, up_ids}
use Rattle.oc_model.proofs.Able.{able_tested}
use Rattle.oc_model.proofs.Ready.{ready_tested}
use Rattle.oc_model.proofs.Runs.{settles_leads, heals_leads}

-- Settle

settle_test : (w : World) → IsReady w → is_ready w ≡ true
settle_test w ready = (ready_tested w).1 ready

pub settle_refused : (w : World) → (word_of w Settle ≡ Unready) ↔ (IsReady w → ⊥)
settle_refused w = (λ e ready. clash (rw (settle_test w ready) at e), λ unready. by_test (is_ready w) (λ e. unready ((ready_tested w).0 e))) where
  clash : Settled (length (settles w).acts) ≡ Unready → ⊥
  clash e = absurd cc

  by_test : (b : Bool) → (b ≡ true → ⊥) → word_of_settle (settle_acts_if b w) ≡ Unready
  by_test true not = absurd (not refl)
  by_test false not = refl

pub settle_unchanged : (w : World) → (IsReady w → ⊥) → next_world w Settle ≡ w
settle_unchanged w unready = by_test (is_ready w) (λ e. unready ((ready_tested w).0 e)) where
  by_test : (b : Bool) → (b ≡ true → ⊥) → after_any w (settle_acts_if b w) ≡ w
  by_test true not = absurd (not refl)
  by_test false not = refl

pub settle_does : (w : World) → IsReady w → next_world w Settle ≡ (settles w).world
settle_does w ready = rw (settle_test w ready) (sym (settles_leads w))

pub settle_tells : (w : World) → IsReady w → word_of w Settle ≡ Settled (length (settles w).acts)
settle_tells w ready = rw (settle_test w ready) refl

-- Heal

heal_test : (w : World) → IsAble w → is_able w ≡ true
heal_test w able = (able_tested w).1 able

-- an able world has a leader
pub heal_leads : (w : World) → IsAble w → (m : ℕ) × (leader w ≡ Some m)
heal_leads w able = by_leader (leader w) refl (and_parts (is_some (leader w)) (list_all (has_room w) (up_ids w)) (heal_test w able)).0 where
  by_leader : (found : Option ℕ) → leader w ≡ found → is_some found ≡ true → (m : ℕ) × (leader w ≡ Some m)
  by_leader None e some = absurd cc
  by_leader (Some m) e some = (m, e)

pub heal_refused : (w : World) → (word_of w Heal ≡ Unready) ↔ (IsAble w → ⊥)
heal_refused w = (λ e able. told able e, λ unable. by_test (is_able w) (λ e. unable ((able_tested w).0 e))) where
  told : IsAble w → word_of w Heal ≡ Unready → ⊥
  told able e = let m = heal_leads w able in clash m.0 (rw (heal_test w able, m.1) at e) where
    clash : (m : ℕ) → Healed (length (heals m w).acts) ≡ Unready → ⊥
    clash m e = absurd cc

  by_test : (b : Bool) → (b ≡ true → ⊥) → word_of_heal (heal_acts_if b (leader w) w) ≡ Unready
  by_test true not = absurd (not refl)
  by_test false not = refl

pub heal_unchanged : (w : World) → (IsAble w → ⊥) → next_world w Heal ≡ w
heal_unchanged w unable = by_test (is_able w) (λ e. unable ((able_tested w).0 e)) where
  by_test : (b : Bool) → (b ≡ true → ⊥) → after_any w (heal_acts_if b (leader w) w) ≡ w
  by_test true not = absurd (not refl)
  by_test false not = refl

pub heal_does : (w : World) (m : ℕ) → IsAble w → leader w ≡ Some m → next_world w Heal ≡ (heals m w).world
heal_does w m able leads = rw (heal_test w able, leads) (sym (heals_leads m w))

pub heal_tells : (w : World) (m : ℕ) → IsAble w → leader w ≡ Some m → word_of w Heal ≡ Healed (length (heals m w).acts)
heal_tells w m able leads = rw (heal_test w able, leads) refl
