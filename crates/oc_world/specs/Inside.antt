-- The world after memory ran out partway through an event.
use Rattle.std.specs.Prelude.{◌≡◌}
use Rattle.oc_calm.specs.Way.{IsOnTheWay, acts_of}
use Rattle.oc_model.specs.declared.event.Event.{Event}
use Rattle.oc_model.specs.declared.event.Event.TheVariants.{Settle, Heal}
use Rattle.oc_model.specs.NextWorld.{heal_acts, settle_acts}
use Rattle.oc_model.specs.World.{World}

-- settle and heal leave the world before one of their acts, and every other event leaves it as it was
abbrev pub IsLeftBy : Event → World → World → Type 0
IsLeftBy Settle old new = IsOnTheWay (acts_of (settle_acts old)) old new
IsLeftBy Heal old new = IsOnTheWay (acts_of (heal_acts old)) old new
IsLeftBy e old new = new ≡ old
