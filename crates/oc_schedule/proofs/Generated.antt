-- Generated schedules: they are within the ranges and the limits.
use Rattle.std.proofs.Common.{◌≡◌, ℕ, zero, suc, ◌+◌, ◌%◌, ◌≤◌, Bool, true, false, cond, ◌==◌, nat_le, List, [], ◌∷◌, ◌++◌, map, length, refl, ap, arith, codes, length-append}
use Rattle.std.specs.List.{AllByRecursion, range_with_len}
use Rattle.std.proofs.lemmas.List.{length-replicate}
use Rattle.std.proofs.lemmas.List.Sums.{sum_by-append, sum_by-cons}
use Rattle.std.proofs.lemmas.Nat.{mod_below}
use Rattle.oc_base.specs.Lawful.{IsNode}
use Rattle.oc_base.specs.declared.limits.TheConstants.{MAX_NODES}
use Rattle.oc_model.specs.declared.event.Act.TheVariants.{At, Deliver}
use Rattle.oc_model.specs.declared.event.Event.{Event}
use Rattle.oc_model.specs.declared.event.Event.TheVariants.{Up, Crash, Do}
use Rattle.oc_model.specs.declared.input.Input.TheVariants.{Tick, Publish}
use Rattle.oc_model.specs.Lawful.{IsEvent}
use Rattle.oc_schedule.specs.declared.generating.TheConstants.{MAX_GENERATED_EVENTS}
use Rattle.oc_schedule.specs.Generator.{draw_at, draws_of, events_from, generated, made}
use Rattle.oc_schedule.specs.declared.scale.Scale.TheVariants.{Usual}
use Rattle.oc_schedule.specs.Schedule.{IsSchedule}
use Rattle.oc_schedule.specs.Script.{published_by, published_in, settles_by, settles_in}
use Rattle.oc_schedule.proofs.Ranges.{zeros_are_areas}

-- an event of the generator: it is within its ranges, publishes at most one byte, and neither settles nor heals
record IsDrawn (nodes : ℕ) (e : Event) : Type 0 where
  lawful : IsEvent nodes e
  published : published_by e ≤ 1
  settles : settles_by e ≡ 0

-- a property of both values holds of the chosen one
either : (P : Event → Type 0) (b : Bool) (x y : Event) → P x → P y → P (cond b x y)
either P true x y px py = px
either P false x y px py = py

made_is_drawn : (nodes i kind node third : ℕ) → IsNode nodes node → nodes ≤ MAX_NODES → 1 ≤ i → i ≤ MAX_GENERATED_EVENTS → IsDrawn nodes (made i kind node third)
made_is_drawn nodes i kind node third is few one last =
    let P = IsDrawn nodes in
    let below = mod_below third i (omega (arith, one)) in
    let source : IsNode nodes 1 = (omega arith, omega (arith, is.0, is.1)) in
    let tick : P (Do (At node (Tick i))) = record { lawful = (is, omega (arith, last)); published = omega arith; settles = refl } in
    let delivery : P (Do (Deliver (1 + third % i))) = record { lawful = (omega arith, omega (arith, below, last)); published = omega arith; settles = refl } in
    let publish : P (Do (At 1 (Publish (codes "/g") (third % 256 ∷ [])))) = record { lawful = (source, (refl, omega arith)); published = omega arith; settles = refl } in
    let crash : P (Crash node) = record { lawful = is; published = omega arith; settles = refl } in
    let up : P (Up node) = record { lawful = is; published = omega arith; settles = refl } in
    either P (nat_le kind 5) _ _ tick (either P (nat_le kind 12) _ _ delivery (either P (kind == 13) _ _ publish (either P (kind == 14) _ _ crash up)))

-- n events of the generator
record AreDrawn (nodes n : ℕ) (es : List Event) : Type 0 where
  lawful : AllByRecursion (IsEvent nodes) es
  count : length es ≡ n
  published : published_in es ≤ n
  settles : settles_in es ≡ 0

one_more : (nodes n : ℕ) (e : Event) (es : List Event) → IsDrawn nodes e → AreDrawn nodes n es → AreDrawn nodes (suc n) (e ∷ es)
one_more nodes n e es is are =
    let bytes : published_in (e ∷ es) ≡ published_by e + published_in es = sum_by-cons published_by e es in
    let times : settles_in (e ∷ es) ≡ settles_by e + settles_in es = sum_by-cons settles_by e es in record {
      lawful = (is.lawful, are.lawful);
      count = ap suc are.count;
      published = omega (arith, bytes, is.published, are.published);
      settles = omega (arith, times, is.settles, are.settles);
    }

events_are_drawn : (seed nodes i at n : ℕ) → 1 ≤ nodes → nodes ≤ MAX_NODES → 1 ≤ i → i + n ≤ MAX_GENERATED_EVENTS + 1 → AreDrawn nodes n (events_from seed nodes i at n)
events_are_drawn seed nodes i at zero some few one last = record { lawful = tt; count = refl; published = omega arith; settles = refl }
events_are_drawn seed nodes i at (suc n) some few one last =
    let below = mod_below (draw_at seed (at + 1)) nodes (omega (arith, some)) in
    let node : IsNode nodes (1 + draw_at seed (at + 1) % nodes) = (omega arith, omega (arith, below)) in
    one_more nodes n _ _ (made_is_drawn nodes i (draw_at seed at % 16) (1 + draw_at seed (at + 1) % nodes) (draw_at seed (at + 2)) node few one (omega (arith, last)))
    (events_are_drawn seed nodes (i + 1) (at + draws_of (draw_at seed at % 16)) n some few (omega arith) (omega (arith, last)))

starts_are_drawn : (nodes x n : ℕ) → 1 ≤ x → x + n ≤ nodes + 1 → AreDrawn nodes n (map (λ y. Up y) (range_with_len x n))
starts_are_drawn nodes x zero one last = record { lawful = tt; count = refl; published = omega arith; settles = refl }
starts_are_drawn nodes x (suc n) one last =
    let start : IsDrawn nodes (Up x) = record { lawful = (one, omega (arith, last)); published = omega arith; settles = refl } in
    one_more nodes n _ _ start (starts_are_drawn nodes (x + 1) n (omega arith) (omega (arith, last)))

all_append : (P : Event → Type 0) (a c : List Event) → AllByRecursion P a → AllByRecursion P c → AllByRecursion P (a ++ c)
all_append P [] c pa pc = pc
all_append P (x ∷ a) c pa pc = (pa.0, all_append P a c pa.1 pc)

pub generated_is_schedule : (seed nodes more : ℕ) → 1 ≤ nodes → nodes ≤ MAX_NODES → nodes + more ≤ MAX_GENERATED_EVENTS → IsSchedule Usual (generated seed nodes more)
generated_is_schedule seed nodes more some few last =
    let starts = map (λ y. Up y) (range_with_len 1 nodes) in
    let drawn = events_from seed nodes (nodes + 1) 0 more in
    let a = starts_are_drawn nodes 1 nodes (omega arith) (omega arith) in
    let c = events_are_drawn seed nodes (nodes + 1) 0 more some few (omega arith) (omega (arith, last)) in
    let published = sum_by-append published_by starts drawn in
    let settles = sum_by-append settles_by starts drawn in
    record {
      header = record { some = some; few = few; chain = omega (arith, some); short = omega arith; within = omega arith; chunk = omega arith; fits = omega arith; areas = length-replicate nodes 0; bytes = zeros_are_areas nodes };
      events = all_append (IsEvent nodes) starts drawn a.lawful c.lawful;
      few = omega (arith, length-append starts drawn, a.count, c.count, last);
      published = omega (arith, published, a.published, c.published, last);
      settles = omega (arith, settles, a.settles, c.settles);
    }
