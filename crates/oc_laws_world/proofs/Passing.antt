-- A property that each act and each event keeps holds after a list of events, and in each world on the way.
use Rattle.std.proofs.Common.{Option, Some, None, List, [], ◌∷◌}
use Rattle.oc_model.specs.declared.event.Act.{Act}
use Rattle.oc_model.specs.declared.event.Event.{Event}
use Rattle.oc_model.specs.declared.event.Event.TheVariants.{Settle, Heal}
use Rattle.oc_model.specs.NextWorld.{settle_acts, heal_acts, next_world, world_after}
use Rattle.oc_model.specs.World.{World, after_act, new_world}
use Rattle.oc_model.specs.Node.{Header}
use Rattle.oc_laws_world.specs.Throughout.{Along, AlongAny, Inside, Throughout, Always}

module _ (J : World → Type 0) (of_act : (w : World) (a : Act) → J w → J (after_act w a)) (of_event : (w : World) (e : Event) → J w → J (next_world w e)) where
  module _ (Q : World → Type 0) (follows : (w : World) → J w → Q w) where
    passing_along : (w : World) → J w → (done : List Act) → Along Q w done
    passing_along w holds [] = tt
    passing_along w holds (a ∷ rest) = let next = of_act w a holds in (follows (after_act w a) next, passing_along (after_act w a) next rest)

    passing_any : (w : World) → J w → (done : Option (List Act)) → AlongAny Q w done
    passing_any w holds None = tt
    passing_any w holds (Some done) = passing_along w holds done

    passing_inside : (w : World) → J w → (e : Event) → Inside Q w e
    passing_inside w holds Settle = passing_any w holds (settle_acts w)
    passing_inside w holds Heal = passing_any w holds (heal_acts w)
    passing_inside w holds e = tt

    pub passing_throughout : (w : World) → J w → (es : List Event) → Throughout Q w es
    passing_throughout w holds [] = follows w holds
    passing_throughout w holds (e ∷ es) = (follows w holds, passing_inside w holds e, passing_throughout (next_world w e) (of_event w e holds) es)

-- a property of each world on the way holds of the last world
pub throughout_after : (P : World → Type 0) (w : World) (events : List Event) → Throughout P w events → P (world_after w events)
throughout_after P w [] all = all
throughout_after P w (e ∷ es) all = throughout_after P (next_world w e) es all.2

-- a property that holds throughout any events holds always
pub always : (P : World → Type 0) → ((h : Header) (events : List Event) → Throughout P (new_world h) events) → Always P
always P all = λ h events. (all h events, throughout_after P (new_world h) events (all h events))
