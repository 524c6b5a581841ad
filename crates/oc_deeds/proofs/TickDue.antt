-- Whether a tick is due.
use Rattle.std.proofs.Common.{◌≡◌, ◌≢◌, ℕ, Bool, cond, [], sym, ap, ◌∙◌}
use Rattle.std.proofs.lemmas.Bool.{eq-eqb, ne_eqb}
use Rattle.oc_deeds.specs.Deeds.{Running, Setting}
use Rattle.oc_deeds.specs.Pace.{looked, wait_until}
use Rattle.oc_deeds.specs.Parts.{nothing}
use Rattle.oc_deeds.specs.Turns.{paced, ticked, ticks}
use Rattle.oc_deeds.specs.declared.pace.Pace.{Pace}

-- no tick is due
pub no_tick : (pace : Pace) (now wait seconds : ℕ) (s : Setting) (a : Running) → wait ≡ wait_until pace now → wait ≢ 0 → ticks pace now seconds s a ≡ []
no_tick pace now wait seconds s a is some =
    ap (λ (b : Bool). cond b (ticked pace.second seconds) nothing s a) (ne_eqb (wait_until pace now) 0 (λ e. some (is ∙ e)))

pub no_tick_paced : (pace : Pace) (now wait seconds : ℕ) → wait ≡ wait_until pace now → wait ≢ 0 → pace ≡ paced pace now seconds
no_tick_paced pace now wait seconds is some = sym (ap (λ (b : Bool). cond b (looked now seconds pace) pace) (ne_eqb (wait_until pace now) 0 (λ e. some (is ∙ e))))

-- a tick is due
pub a_tick : (pace : Pace) (now wait seconds : ℕ) (s : Setting) (a : Running) → wait ≡ wait_until pace now → wait ≡ 0 → ticks pace now seconds s a ≡ ticked pace.second seconds s a
a_tick pace now wait seconds s a is none =
    ap (λ (b : Bool). cond b (ticked pace.second seconds) nothing s a) (eq-eqb (wait_until pace now) 0 (sym is ∙ none))

pub a_tick_paced : (pace : Pace) (now wait seconds : ℕ) → wait ≡ wait_until pace now → wait ≡ 0 → looked now seconds pace ≡ paced pace now seconds
a_tick_paced pace now wait seconds is none = sym (ap (λ (b : Bool). cond b (looked now seconds pace) pace) (eq-eqb (wait_until pace now) 0 (sym is ∙ none)))
