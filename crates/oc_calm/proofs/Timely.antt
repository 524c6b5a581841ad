-- No tick of settle or heal goes past the last second of a clock, where no clock of a node that is up is in its last minute.
use Rattle.std.proofs.Common.{◌≡◌, ℕ, ◌+◌, ◌≤◌, Bool, true, Option, Some, None, List, [], ◌∷◌, ◌++◌, filter, inl, inr, refl, ap, sym, subst, ◌∙◌, arith}
use Rattle.std.specs.List.{range_with_len}
use Rattle.std.proofs.lemmas.Bool.{cond_both}
use Rattle.oc_base.specs.declared.limits.TheConstants.{LAST_SECOND}
use Rattle.oc_model.specs.declared.event.Act.{Act}
use Rattle.oc_model.specs.declared.event.Act.TheVariants as acts
use Rattle.oc_model.specs.declared.input.Input.{Input}
use Rattle.oc_model.specs.declared.input.Input.TheVariants as inputs
use Rattle.oc_model.specs.declared.message.Message.{Message}
use Rattle.oc_model.specs.Heal.{heals}
use Rattle.oc_model.specs.Runs.{Run, for_each}
use Rattle.oc_model.specs.Settle.{ticks, settles}
use Rattle.oc_model.specs.Step.{step}
use Rattle.oc_model.specs.World.{World, Arrival, node, process, ids, is_up, up_ids, message_at, stepped, delivery, arrival, acted}
use Rattle.oc_model.specs.WorldBounds.{IsOneOf, IsDistinct, clock_of}
use Rattle.oc_model.proofs.Clocks.{range_distinct}
use Rattle.oc_model.proofs.GoesOn.{ids-after_acts}
use Rattle.oc_model.proofs.Lists.{all_append}
use Rattle.oc_model.proofs.Members.{of_filter}
use Rattle.oc_model.proofs.Outcomes.{clock_by, step_leaves}
use Rattle.oc_model.proofs.Processes.{at_put}
use Rattle.oc_model.proofs.Runs.{IsNoTick, IsCourse, course_settles, course_heals}
use Rattle.oc_calm.specs.Cluster.{UpAreBefore}
use Rattle.oc_calm.specs.Timely.{IsTimely, AreTimely}
use Rattle.oc_calm.proofs.Steady.{me_after, up_stays}

-- Clocks

-- the clock of each node after an input
clock_stepped : (w : World) (x y t : ℕ) (i : Input) → (x ≡ y → clock_by i (clock_of w x) ≤ t) → clock_of w y ≤ t → clock_of (stepped w i (step (node w x) i)) y ≤ t
clock_stepped w x y t i new old =
    at_put w.processes (record { node = (step (node w x) i).node; up = true }) (λ n. n.control.soft.clock ≤ t) y
    (λ e. subst (λ (c : ℕ). c ≤ t) (sym (step_leaves (node w x) i).clock) (new (sym (me_after w x i) ∙ e))) old

-- an act that moves no clock
abbrev TellsNoTime : Option Arrival → Type 0
TellsNoTime None = Unit {0}
TellsNoTime (Some a) = (c : ℕ) → clock_by a.input c ≡ c

delivery_quiet : (m : Option Message) → TellsNoTime (delivery m)
delivery_quiet None = tt
delivery_quiet (Some m) = λ c. refl

act_quiet : (w : World) (a : Act) → IsNoTick a → TellsNoTime (arrival w a)
act_quiet w (acts.At x (inputs.Tick t)) no_tick = absurd no_tick
act_quiet w (acts.At x (inputs.Delivered m)) no_tick = tt
act_quiet w (acts.At x i) no_tick = λ c. refl
act_quiet w (acts.Deliver k) no_tick = delivery_quiet (message_at w.net k)

-- an act that is no tick leaves each clock before its bound
clock_quiet : (w : World) (a : Option Arrival) (y t : ℕ) → TellsNoTime a → clock_of w y ≤ t → clock_of (acted w a) y ≤ t
clock_quiet w None y t quiet before = before
clock_quiet w (Some a) y t quiet before =
    cond_both (process w a.at).up (stepped w a.input (step (node w a.at) a.input)) w (λ v. clock_of v y ≤ t)
    (λ _. clock_stepped w a.at y t a.input (λ same. subst (λ (c : ℕ). c ≤ t) (sym (quiet (clock_of w a.at) ∙ ap (clock_of w) same)) before) before) (λ _. before)

-- a tick moves the clock of its own node alone
tick_other : (w : World) (x more y t : ℕ) → (y ≡ x → ⊥) → clock_of w y ≤ t → clock_of (ticks more x w).world y ≤ t
tick_other w x more y t other before =
    let i : Input = inputs.Tick (clock_of w x + more) in
    cond_both (process w x).up (stepped w i (step (node w x) i)) w (λ v. clock_of v y ≤ t) (λ _. clock_stepped w x y t i (λ same. absurd (other (sym same))) before) (λ _. before)

-- a tick moves a clock by at most `more` seconds
tick_before : (w : World) (x more y t : ℕ) → clock_of w x ≤ t → clock_of w y ≤ t + more → clock_of (ticks more x w).world y ≤ t + more
tick_before w x more y t here before =
    let i : Input = inputs.Tick (clock_of w x + more) in
    cond_both (process w x).up (stepped w i (step (node w x) i)) w (λ v. clock_of v y ≤ t + more) (λ _. clock_stepped w x y (t + more) i (λ same. omega (arith, here)) before) (λ _. before)

-- A round of ticks

-- a filtered list without repeats has no repeats
filter_distinct : (test : ℕ → Bool) (xs : List ℕ) → IsDistinct xs → IsDistinct (filter test xs)
filter_distinct test [] distinct = tt
filter_distinct test (x ∷ xs) distinct =
    cond_both (test x) (x ∷ filter test xs) (filter test xs) IsDistinct
    (λ _. (λ one. distinct.0 (of_filter test xs x one).1, filter_distinct test xs distinct.1))
    (λ _. filter_distinct test xs distinct.1)

-- a round of ticks is timely while none of these nodes has ticked yet
ticks_timely : (more t : ℕ) (xs : List ℕ) (w : World) → t + more ≤ LAST_SECOND → IsDistinct xs → ((y : ℕ) → IsOneOf y xs → clock_of w y ≤ t) → UpAreBefore (t + more) w
    → AreTimely (for_each xs (ticks more) w).acts × UpAreBefore (t + more) (for_each xs (ticks more) w).world
ticks_timely more t [] w late distinct early before = (tt, before)
ticks_timely more t (x ∷ xs) w late distinct early before =
    let here : clock_of w x ≤ t = early x (inl refl) in
    let rest = ticks_timely more t xs (ticks more x w).world late distinct.1
    (λ y one. tick_other w x more y t (λ e. distinct.0 (subst (λ z. IsOneOf z xs) e one)) (early y (inr one)))
    (λ y up. tick_before w x more y t here (before y (sym (up_stays w (acts.At x (inputs.Tick (clock_of w x + more)) ∷ []) y) ∙ up))) in
    let now : clock_of w x + more ≤ LAST_SECOND = omega (arith, here, late) in
    ((now, rest.0), rest.1)

-- Runs

-- the ids stay the same, and the ticks are timely where k seconds are left
record IsInTime (k : ℕ) (w : World) (r : Run) : Type 0 where
  same : ids r.world ≡ ids w
  timely : IsDistinct (ids w) → (t : ℕ) → t + k ≤ LAST_SECOND → UpAreBefore t w → AreTimely r.acts × UpAreBefore (t + k) r.world

ticks_same : (more : ℕ) (xs : List ℕ) (w : World) → ids (for_each xs (ticks more) w).world ≡ ids w
ticks_same more [] w = refl
ticks_same more (x ∷ xs) w = ticks_same more xs (ticks more x w).world ∙ ids-after_acts w (acts.At x (inputs.Tick (clock_of w x + more)) ∷ [])

-- an act that is no tick is timely
act_timely : (a : Act) → IsNoTick a → IsTimely a
act_timely (acts.At x (inputs.Tick t)) no_tick = absurd no_tick
act_timely (acts.At x i) no_tick = tt
act_timely (acts.Deliver k) no_tick = tt

in_time : IsCourse IsInTime
in_time = record {
  rests = λ w. record { same = refl; timely = λ distinct t late before. (tt, λ y up. omega (arith, before y up)) };
  does = λ w a no_tick. record {
    same = ids-after_acts w (a ∷ []);
    timely = λ distinct t late before. (
      (act_timely a no_tick, tt),
      λ y up. clock_quiet w (arrival w a) y (t + 0) (act_quiet w a no_tick) (omega (arith, before y (sym (up_stays w (a ∷ []) y) ∙ up))),
    );
  };
  follows = λ j k w r f first second. record {
    same = second.same ∙ first.same;
    timely = λ distinct t late before.
        let one = first.timely distinct t (omega (arith, late)) before in
        let two = second.timely (subst IsDistinct (sym first.same) distinct) (t + j) (omega (arith, late)) one.1 in
        (all_append IsTimely r.acts (f r.world).acts one.0 two.0, λ y up. omega (arith, two.1 y up));
  };
  all_tick = λ more w. record {
    same = ticks_same more (up_ids w) w;
    timely = λ distinct t late before.
        ticks_timely more t (up_ids w) w late (filter_distinct (is_up w) (ids w) distinct)
        (λ y one. before y (of_filter (is_up w) (ids w) y one).0) (λ y up. omega (arith, before y up));
  };
}

-- the ids of a cluster are distinct
ids_distinct : (w : World) (n : ℕ) → ids w ≡ range_with_len 1 n → IsDistinct (ids w)
ids_distinct w n e = subst IsDistinct (sym e) (range_distinct 1 n)

-- settle is timely where half a minute is left
pub settles_timely : (w : World) (n t : ℕ) → ids w ≡ range_with_len 1 n → t + 30 ≤ LAST_SECOND → UpAreBefore t w → AreTimely (settles w).acts
settles_timely w n t e late before = ((course_settles IsInTime in_time w).timely (ids_distinct w n e) t late before).0

-- heal is timely where a minute is left
pub heals_timely : (m : ℕ) (w : World) (n t : ℕ) → ids w ≡ range_with_len 1 n → t + 60 ≤ LAST_SECOND → UpAreBefore t w → AreTimely (heals m w).acts
heals_timely m w n t e late before = ((course_heals IsInTime in_time m w).timely (ids_distinct w n e) t late before).0

-- the first part of timely acts is timely
pub timely_first : (some more : List Act) → AreTimely (some ++ more) → AreTimely some
timely_first [] more all = tt
timely_first (a ∷ some) more all = (all.0, timely_first some more all.1)

pub timely_later : (some more : List Act) → AreTimely (some ++ more) → AreTimely more
timely_later [] more all = all
timely_later (a ∷ some) more all = timely_later some more all.1
