-- Clocks run by ticks alone: an event takes none past the latest by more than sixty seconds, which heal takes.
use Rattle.std.proofs.Common.{◌≡◌, ℕ, zero, suc, ◌+◌, ◌≤◌, Bool, true, false, Option, Some, None, List, [], ◌∷◌, filter, inl, inr, refl, ap, sym, subst, ◌∙◌, arith}
use Rattle.std.specs.List.{range_with_len}
use Rattle.std.proofs.lemmas.Bool.{cond_both}
use Rattle.oc_model.specs.declared.event.Act.{Act}
use Rattle.oc_model.specs.declared.event.Act.TheVariants as acts
use Rattle.oc_model.specs.declared.event.Event.{Event}
use Rattle.oc_model.specs.declared.event.Event.TheVariants.{Up, Crash, Stop, Do, Held, Show, Settle, Heal}
use Rattle.oc_model.specs.declared.input.Input.{Input}
use Rattle.oc_model.specs.declared.input.Input.TheVariants as inputs
use Rattle.oc_model.specs.Heal.{is_able, leader, heals}
use Rattle.oc_model.specs.Lawful.{IsEvent, IsAct}
use Rattle.oc_base.specs.declared.limits.TheConstants.{MAX_RATE}
use Rattle.oc_model.specs.NextWorld.{stopped, cut_off, keeps_write, stopped_at, settle_acts_if, heal_acts_if, after_any, next_world}
use Rattle.oc_model.specs.Node.{Outcome}
use Rattle.oc_model.specs.Ready.{is_ready}
use Rattle.oc_model.specs.Runs.{after_acts, Run, for_each}
use Rattle.oc_model.specs.Settle.{ticks, settles}
use Rattle.oc_model.specs.Step.{step}
use Rattle.oc_model.specs.World.{World, Process, Arrival, node, process, process_in, with_process, ids, is_up, up_ids, message_at, stepped, delivery, arrival, acted}
use Rattle.oc_model.proofs.GoesOn.{ids-after_acts}
use Rattle.oc_model.specs.WorldBounds.{IsOneOf, IsDistinct, clock_of, AreBefore}
use Rattle.oc_model.proofs.Members.{of_filter}
use Rattle.oc_model.proofs.Outcomes.{clock_by, step_leaves}
use Rattle.oc_model.proofs.Processes.{process_in-me, process_in-with_other, at_put, anew, again}
use Rattle.oc_model.proofs.Runs.{IsNoTick, IsCourse, course_settles, course_heals, settles_leads, heals_leads}

-- Acts

-- whatever is put in the place of one, by a clock before a second
put_before : (w : World) (q : Process) (t : ℕ) → AreBefore t w → q.node.control.soft.clock ≤ t → (y : ℕ) → (process_in (with_process w.processes q) y).node.control.soft.clock ≤ t
put_before w q t before new y = at_put w.processes q (λ n. n.control.soft.clock ≤ t) y (λ _. new) (before y)

-- an input that is no tick past this second
abbrev IsEarly : ℕ → Input → Type 0
IsEarly t (inputs.Tick u) = u ≤ t
IsEarly t i = Unit {0}

clock_early : (t c : ℕ) (i : Input) → IsEarly t i → c ≤ t → clock_by i c ≤ t
clock_early t c (inputs.Tick u) early before = omega (arith, early, before)
clock_early t c i early before = before

-- an input before this second
acted_before : (w : World) (x t : ℕ) (i : Input) → IsEarly t i → AreBefore t w → AreBefore t (stepped w i (step (node w x) i))
acted_before w x t i early before =
    put_before w (record { node = (step (node w x) i).node; up = true }) t before
    (subst (λ c. c ≤ t) (sym (step_leaves (node w x) i).clock) (clock_early t (clock_of w x) i early (before x)))

abbrev IsEarlyArrival : ℕ → Option Arrival → Type 0
IsEarlyArrival t None = Unit {0}
IsEarlyArrival t (Some a) = IsEarly t a.input

arrival_before : (w : World) (t : ℕ) (a : Option Arrival) → IsEarlyArrival t a → AreBefore t w → AreBefore t (acted w a)
arrival_before w t None early before = before
arrival_before w t (Some a) early before =
    cond_both (process w a.at).up (stepped w a.input (step (node w a.at) a.input)) w (AreBefore t) (λ _. acted_before w a.at t a.input early before) (λ _. before)

-- a delivery is no tick
delivery_early : (w : World) (t k : ℕ) → IsEarlyArrival t (delivery (message_at w.net k))
delivery_early w t k = by_found (message_at w.net k) where
  by_found : (found : Option _) → IsEarlyArrival t (delivery found)
  by_found None = tt
  by_found (Some m) = tt

-- an act that is no tick is early, and so is a tick within the range
quiet_early : (w : World) (t : ℕ) (a : Act) → IsNoTick a → IsEarlyArrival t (arrival w a)
quiet_early w t (acts.At x (inputs.Tick u)) no_tick = absurd no_tick
quiet_early w t (acts.At x i) no_tick = tt
quiet_early w t (acts.Deliver k) no_tick = delivery_early w t k

lawful_early : (w : World) (nodes t : ℕ) (a : Act) → MAX_RATE ≤ t → IsAct nodes a → IsEarlyArrival t (arrival w a)
lawful_early w nodes t (acts.At x (inputs.Tick u)) late is = omega (arith, late, is.1)
lawful_early w nodes t (acts.At x i) late is = tt
lawful_early w nodes t (acts.Deliver k) late is = delivery_early w t k

-- A round of ticks

-- a distinct list stays so where some are left out
filter_distinct : (test : ℕ → Bool) (xs : List ℕ) → IsDistinct xs → IsDistinct (filter test xs)
filter_distinct test [] distinct = tt
filter_distinct test (x ∷ xs) distinct =
    cond_both (test x) (x ∷ filter test xs) (filter test xs) IsDistinct
    (λ _. (λ one. distinct.0 (of_filter test xs x one).1, filter_distinct test xs distinct.1))
    (λ _. filter_distinct test xs distinct.1)

-- a tick of x leaves the clock of every other node
tick_other : (w : World) (x more y : ℕ) → (y ≡ x → ⊥) → clock_of (ticks more x w).world y ≡ clock_of w y
tick_other w x more y other =
    let i : Input = inputs.Tick (clock_of w x + more) in
    let o : Outcome = step (node w x) i in
    cond_both (process w x).up (stepped w i o) w (λ v. clock_of v y ≡ clock_of w y)
    (λ _. ap (λ (p : Process). p.node.control.soft.clock) (process_in-with_other w.processes (record { node = o.node; up = true }) y (λ e. other (sym e ∙ ((step_leaves (node w x) i).me ∙ process_in-me w.processes x)))))
    (λ _. refl)

-- while these have not ticked yet, each once, no clock goes past the latest by more
ticks_before : (more t : ℕ) (xs : List ℕ) (w : World) → IsDistinct xs → ((y : ℕ) → IsOneOf y xs → clock_of w y ≤ t) → AreBefore (t + more) w → AreBefore (t + more) (for_each xs (ticks more) w).world
ticks_before more t [] w distinct early before = before
ticks_before more t (x ∷ xs) w distinct early before =
    ticks_before more t xs (ticks more x w).world distinct.1
    (λ y one. subst (λ c. c ≤ t) (sym (tick_other w x more y (λ e. distinct.0 (subst (λ z. IsOneOf z xs) e one)))) (early y (inr one)))
    (arrival_before w (t + more) (Some (record { at = x; input = inputs.Tick (clock_of w x + more) })) (omega (arith, early x (inl refl))) before)

-- Runs

-- the ids stay, and where no id comes twice no clock goes past the latest by more than k seconds
record Lasts (k : ℕ) (w : World) (r : Run) : Type 0 where
  same : ids r.world ≡ ids w
  before : IsDistinct (ids w) → (t : ℕ) → AreBefore t w → AreBefore (t + k) r.world

ticks_same : (more : ℕ) (xs : List ℕ) (w : World) → ids (for_each xs (ticks more) w).world ≡ ids w
ticks_same more [] w = refl
ticks_same more (x ∷ xs) w = ticks_same more xs (ticks more x w).world ∙ ids-after_acts w (acts.At x (inputs.Tick (clock_of w x + more)) ∷ [])

lasting : IsCourse Lasts
lasting = record {
  rests = λ w. record { same = refl; before = λ distinct t before x. omega (arith, before x) };
  does = λ w a no_tick. record { same = ids-after_acts w (a ∷ []); before = λ distinct t before. arrival_before w (t + 0) (arrival w a) (quiet_early w (t + 0) a no_tick) (λ x. omega (arith, before x)) };
  follows = λ j k w r f first second. record {
    same = second.same ∙ first.same;
    before = λ distinct t before x.
        let there = second.before (subst IsDistinct (sym first.same) distinct) (t + j) (first.before distinct t before) x in
        omega (arith, there);
  };
  all_tick = λ more w. record {
    same = ticks_same more (up_ids w) w;
    before = λ distinct t before. ticks_before more t (up_ids w) w (filter_distinct (is_up w) (ids w) distinct) (λ y one. before y) (λ y. omega (arith, before y));
  };
}

-- settle takes thirty seconds, and heal sixty
settles_before : (w : World) → IsDistinct (ids w) → (t : ℕ) → AreBefore t w → AreBefore (t + 30) (after_acts w (settles w).acts)
settles_before w distinct t before = subst (AreBefore (t + 30)) (settles_leads w) ((course_settles Lasts lasting w).before distinct t before)

heals_before : (m : ℕ) (w : World) → IsDistinct (ids w) → (t : ℕ) → AreBefore t w → AreBefore (t + 60) (after_acts w (heals m w).acts)
heals_before m w distinct t before = subst (AreBefore (t + 60)) (heals_leads m w) ((course_heals Lasts lasting m w).before distinct t before)

-- Events

-- a second later
later : (w : World) (t k j : ℕ) → k ≤ j → AreBefore (t + k) w → AreBefore (t + j) w
later w t k j more before x = omega (arith, more, before x)

-- a start sets the clock to 0
start_before : (w : World) (x : ℕ) (up : Bool) (t : ℕ) → AreBefore t w → AreBefore t (again w x up)
start_before w x up t before = put_before w (anew w x up) t before (omega arith)

cut_before : (b : Bool) (w : World) (x : ℕ) (i : Input) (t : ℕ) → AreBefore t w → AreBefore t (cut_off b w (node w x) i (step (node w x) i))
cut_before true w x i t before = put_before w (stopped (step (node w x) i).node) t before (omega arith)
cut_before false w x i t before = start_before w x false t before

stop_before : (w : World) (calls image : ℕ) (a : Option Arrival) (t : ℕ) → AreBefore t w → AreBefore t (stopped_at w calls image a)
stop_before w calls image None t before = before
stop_before w calls image (Some a) t before =
    let kept : Bool = keeps_write calls image (node w a.at) a.input in
    cond_both (process w a.at).up (cut_off kept w (node w a.at) a.input (step (node w a.at) a.input)) w (AreBefore t) (λ _. cut_before kept w a.at a.input t before) (λ _. before)

settle_before : (w : World) → IsDistinct (ids w) → (ready : Bool) (t : ℕ) → AreBefore t w → AreBefore (t + 60) (after_any w (settle_acts_if ready w))
settle_before w distinct true t before = later (after_acts w (settles w).acts) t 30 60 (omega arith) (settles_before w distinct t before)
settle_before w distinct false t before = λ x. omega (arith, before x)

heal_before : (w : World) → IsDistinct (ids w) → (able : Bool) (m : Option ℕ) (t : ℕ) → AreBefore t w → AreBefore (t + 60) (after_any w (heal_acts_if able m w))
heal_before w distinct true (Some m) t before = heals_before m w distinct t before
heal_before w distinct true None t before = λ x. omega (arith, before x)
heal_before w distinct false m t before = λ x. omega (arith, before x)

-- no event within the ranges takes a clock past the latest, or past the latest second of a tick, by more than sixty
pub clocks-next_world : (w : World) (e : Event) (nodes t : ℕ) → IsDistinct (ids w) → IsEvent nodes e → MAX_RATE ≤ t → AreBefore t w → AreBefore (t + 60) (next_world w e)
clocks-next_world w (Up x) nodes t distinct is late before =
    cond_both (process w x).up w (again w x true) (AreBefore (t + 60))
    (λ _. λ y. omega (arith, before y)) (λ _. λ y. omega (arith, start_before w x true t before y))
clocks-next_world w (Crash x) nodes t distinct is late before =
    cond_both (process w x).up (again w x false) w (AreBefore (t + 60))
    (λ _. λ y. omega (arith, start_before w x false t before y)) (λ _. λ y. omega (arith, before y))
clocks-next_world w (Stop calls image a) nodes t distinct is late before = λ y. omega (arith, stop_before w calls image (arrival w a) t before y)
clocks-next_world w (Do a) nodes t distinct is late before = λ y. omega (arith, arrival_before w t (arrival w a) (lawful_early w nodes t a late is) before y)
clocks-next_world w (Held x) nodes t distinct is late before = λ y. omega (arith, before y)
clocks-next_world w (Show x) nodes t distinct is late before = λ y. omega (arith, before y)
clocks-next_world w Settle nodes t distinct is late before = settle_before w distinct (is_ready w) t before
clocks-next_world w Heal nodes t distinct is late before = heal_before w distinct (is_able w) (leader w) t before

-- ids one after another are distinct
members_from : (b n x : ℕ) → IsOneOf x (range_with_len b n) → b ≤ x
members_from b zero x one = absurd one
members_from b (suc n) x (inl same) = omega (arith, same)
members_from b (suc n) x (inr more) = omega (arith, members_from (b + 1) n x more)

pub range_distinct : (b n : ℕ) → IsDistinct (range_with_len b n)
range_distinct b zero = tt
range_distinct b (suc n) = (λ one. absurd (omega (arith, members_from (b + 1) n b one)), range_distinct (b + 1) n)
