-- The worlds that events reach from a new one, and the worlds to which acts lead from such a world.
use Rattle.std.proofs.Common.{◌≡◌, List, [], ◌∷◌, ◌++◌, refl, ap, sym, subst, ◌∙◌}
use Rattle.oc_model.specs.declared.event.Act.{Act}
use Rattle.oc_model.specs.declared.event.Event.{Event}
use Rattle.oc_model.specs.declared.event.Event.TheVariants.{Do}
use Rattle.oc_model.specs.Lawful.{IsHeader}
use Rattle.oc_model.specs.NextWorld.{next_world, world_after}
use Rattle.oc_model.specs.Node.{Header}
use Rattle.oc_model.specs.World.{World, new_world, after_act}

-- events lead to this world from a new one
pub record Reached (h : Header) (w : World) : Type 0 where
  pub events : List Event
  pub is : w ≡ world_after (new_world h) events

-- one event more
after_one_more : (w : World) (es : List Event) (e : Event) → world_after w (es ++ e ∷ []) ≡ next_world (world_after w es) e
after_one_more w [] e = refl
after_one_more w (d ∷ es) e = after_one_more (next_world w d) es e

pub reached_after : (h : Header) (events : List Event) → Reached h (world_after (new_world h) events)
reached_after h events = record { events = events; is = refl }

pub reached_event : (h : Header) (w : World) (e : Event) → Reached h w → Reached h (next_world w e)
reached_event h w e reached = record { events = reached.events ++ e ∷ []; is = ap (λ (v : World). next_world v e) reached.is ∙ sym (after_one_more (new_world h) reached.events e) }

pub reached_act : (h : Header) (w : World) (a : Act) → Reached h w → Reached h (after_act w a)
reached_act h w a reached = reached_event h w (Do a) reached

-- a property of each world after any events holds of each reached world
pub of_reached : (Q : World → Type 0) → ((h : Header) (events : List Event) → Q (world_after (new_world h) events)) → (h : Header) (w : World) → Reached h w → Q w
of_reached Q holds h w reached = subst Q (sym reached.is) (holds h reached.events)

-- the converse: a property of each reached world holds after any events
pub at_reached : (Q : World → Type 0) → ((h : Header) (w : World) → Reached h w → Q w) → (h : Header) (events : List Event) → Q (world_after (new_world h) events)
at_reached Q holds h events = holds h (world_after (new_world h) events) (reached_after h events)

-- the same within the limits of a header
pub within_limits : (Q : World → Type 0) → ((h : Header) (w : World) → Reached h w → IsHeader h → Q w) → (h : Header) (events : List Event) → IsHeader h → Q (world_after (new_world h) events)
within_limits Q holds h events header = holds h (world_after (new_world h) events) (reached_after h events) header
