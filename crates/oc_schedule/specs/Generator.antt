-- The generator: a schedule that follows from a seed.
use Rattle.std.specs.Prelude.{ℕ, zero, suc, ◌+◌, ◌*◌, ◌/◌, ◌%◌, ◌^◌, ◌==◌, nat_le, min, if◌then◌else◌, List, [], ◌∷◌, ◌++◌, map, replicate, codes}
use Rattle.std.specs.List.{range_with_len}
use Rattle.oc_base.specs.declared.limits.TheConstants.{USUAL_CHUNK_BYTES}
use Rattle.oc_model.specs.declared.event.Act.TheVariants.{At, Deliver}
use Rattle.oc_model.specs.declared.event.Event.{Event}
use Rattle.oc_model.specs.declared.event.Event.TheVariants.{Up, Crash, Do}
use Rattle.oc_model.specs.declared.input.Input.TheVariants.{Tick, Publish}
use Rattle.oc_schedule.specs.Script.{Script}

-- Draws

-- the next state of a linear congruential generator of 64 bits
abbrev pub next_state : ℕ → ℕ
next_state x = (x * 6364136223846793005 + 1442695040888963407) % 2 ^ 64

-- the state after this many draws
abbrev pub state_after : ℕ → ℕ → ℕ
state_after seed zero = seed
state_after seed (suc n) = next_state (state_after seed n)

-- the draw at an index: the upper 31 bits of the state after the one at the index
abbrev pub draw_at : ℕ → ℕ → ℕ
draw_at seed i = state_after seed (suc i) / 2 ^ 33

-- Events

-- event number i, made from a number below 16 for its kind, a node, and one more draw
abbrev pub made : ℕ → ℕ → ℕ → ℕ → Event
made i kind node third =
    if nat_le kind 5 then Do (At node (Tick i))
    else if nat_le kind 12 then Do (Deliver (1 + third % i))
    else if kind == 13 then Do (At 1 (Publish (codes "/g") (third % 256 ∷ [])))
    else if kind == 14 then Crash node
    else Up node

-- the number of draws for an event of this kind: a delivery and a publish take a third one
abbrev pub draws_of : ℕ → ℕ
draws_of kind = if nat_le kind 5 then 2 else if nat_le kind 13 then 3 else 2

-- n events from number i on, made from the draws from an index on
abbrev pub events_from : ℕ → ℕ → ℕ → ℕ → ℕ → List Event
events_from seed nodes i at zero = []
events_from seed nodes i at (suc n) =
    made i (draw_at seed at % 16) (1 + draw_at seed (at + 1) % nodes) (draw_at seed (at + 2))
    ∷ events_from seed nodes (i + 1) (at + draws_of (draw_at seed at % 16)) n

-- the schedule of a seed: all nodes start, and then come the events of the draws
abbrev pub generated : ℕ → ℕ → ℕ → Script
generated seed nodes more = record {
  header = record { nodes = nodes; chain = min 3 nodes; chunk = USUAL_CHUNK_BYTES; areas = replicate nodes 0 };
  events = map (λ x. Up x) (range_with_len 1 nodes) ++ events_from seed nodes (nodes + 1) 0 more;
}
