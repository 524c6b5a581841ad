-- Properties of all worlds on the way of some events.
use Rattle.std.specs.Prelude.{Option, Some, None, List, [], ◌∷◌}
use Rattle.oc_model.specs.declared.event.Act.{Act}
use Rattle.oc_model.specs.declared.event.Event.{Event}
use Rattle.oc_model.specs.declared.event.Event.TheVariants.{Settle, Heal}
use Rattle.oc_model.specs.NextWorld.{settle_acts, heal_acts, next_world, world_after}
use Rattle.oc_model.specs.Node.{Header}
use Rattle.oc_model.specs.World.{World, after_act, new_world}

-- the property holds in each world along these acts, one after another
abbrev pub Along : (World → Type 0) → World → List Act → Type 0
Along P w [] = Unit {0}
Along P w (a ∷ rest) = P (after_act w a) × Along P (after_act w a) rest

-- the property holds along the acts, if there are any
abbrev pub AlongAny : (World → Type 0) → World → Option (List Act) → Type 0
AlongAny P w None = Unit {0}
AlongAny P w (Some done) = Along P w done

-- the property holds in each world within an event: settle and heal consist of acts
abbrev pub Inside : (World → Type 0) → World → Event → Type 0
Inside P w Settle = AlongAny P w (settle_acts w)
Inside P w Heal = AlongAny P w (heal_acts w)
Inside P w e = Unit {0}

-- the property holds in this world, and in each world along these events, also within settle and heal
abbrev pub Throughout : (World → Type 0) → World → List Event → Type 0
Throughout P w [] = P w
Throughout P w (e ∷ es) = P w × Inside P w e × Throughout P (next_world w e) es

-- the property holds after any events, in any order, from any new world, and in each world on the way
abbrev pub Always : (World → Type 0) → Type 0
Always P = (h : Header) (events : List Event) → Throughout P (new_world h) events × P (world_after (new_world h) events)
