-- The world that a schedule opens.
use Rattle.std.proofs.Common.{◌≡◌, ℕ, ◌≤◌, List, [], ◌∷◌, length, map, sym, ap, ◌∙◌, subst, arith}
use Rattle.std.specs.List.{range_with_len, AllByRecursion}
use Rattle.std.proofs.lemmas.List.FromFn.{length-range_with_len}
use Rattle.oc_base.specs.declared.limits.TheConstants.{MAX_TIME}
use Rattle.oc_model.specs.declared.event.Event.{Event}
use Rattle.oc_model.specs.Lawful.{IsEvent}
use Rattle.oc_model.specs.Node.{Header, new_node}
use Rattle.oc_model.specs.World.{World, Process, down, ids, new_world}
use Rattle.oc_model.specs.WorldBounds.{AreBefore, AreWithinLimits}
use Rattle.oc_model.proofs.GoesOn.{ids-always}
use Rattle.oc_model.proofs.Processes.{process_in-new}
use Rattle.oc_schedule.specs.declared.scale.Scale.{Scale}
use Rattle.oc_schedule.specs.declared.scale.Scale.TheVariants.{Usual, Large}
use Rattle.oc_schedule.specs.Schedule.{IsSchedule}
use Rattle.oc_schedule.specs.Script.{Script}
use Rattle.oc_replay.specs.Opening.{IsOpening}

-- new nodes hold nothing, which is within the limits
new_within : (h : Header) (xs : List ℕ) → AllByRecursion (λ p. AreWithinLimits p.node.groups) (map (λ x. down (new_node h x)) xs)
new_within h [] = tt
new_within h (x ∷ xs) = ((tt, omega arith, tt), new_within h xs)

-- no clock of a new world has run
no_clock : (h : Header) → AreBefore MAX_TIME (new_world h)
no_clock h x =
    let new = process_in-new h (range_with_len 1 h.nodes) x in
    subst (λ (p : Process). p.node.control.soft.clock ≤ MAX_TIME) (sym new.1) (omega arith)

-- the world of a header has its nodes
pub opened-nodes : (h : Header) (w : World) → w ≡ new_world h → length (ids w) ≡ h.nodes
opened-nodes h w opened = ap (λ (v : World). length (ids v)) opened ∙ ap length (ids-always h []) ∙ length-range_with_len 1 h.nodes

-- the events of the schedule can begin with that world
pub opened-opening : (s : Script) (h : Header) (w : World) (es : List Event) → h ≡ s.header → es ≡ s.events → w ≡ new_world h → IsSchedule Large s → IsOpening w es
opened-opening s h w es header events opened schedule =
    let count : length (ids w) ≡ h.nodes = opened-nodes h w opened in
    record {
      numbered = ap ids opened ∙ ids-always h [] ∙ ap (range_with_len 1) (sym count);
      net = ap (λ (v : World). v.net) opened;
      clocks = subst (AreBefore MAX_TIME) (sym opened) (no_clock h);
      limits = subst (λ (v : World). AllByRecursion (λ p. AreWithinLimits p.node.groups) v.processes) (sym opened) (new_within h (range_with_len 1 h.nodes));
      lawful = rw (count, events) (subst (λ (k : Header). AllByRecursion (IsEvent k.nodes) s.events) (sym header) schedule.events);
      few = rw events schedule.few;
    }

-- a schedule of any scale is within the limits of a large one
pub as_large : (scale : Scale) (s : Script) → IsSchedule scale s → IsSchedule Large s
as_large Usual s is = record { header = is.header; events = is.events; few = omega (arith, is.few); published = omega (arith, is.published); settles = is.settles }
as_large Large s is = is
