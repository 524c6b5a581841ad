use Rattle.std.specs.Prelude.{◌≡◌, ◌<◌, List, [], length}
use Rattle.std.specs.List.{range_with_len, AllByRecursion}
use Rattle.oc_base.specs.declared.limits.TheConstants.{MAX_TIME}
use Rattle.oc_model.specs.declared.event.Event.{Event}
use Rattle.oc_model.specs.Lawful.{IsEvent}
use Rattle.oc_model.specs.World.{World, ids}
use Rattle.oc_model.specs.WorldBounds.{AreBefore, IsWithinLimits}
use Rattle.oc_schedule.specs.declared.scale.TheConstants.{MAX_LARGE_LINES}

-- a world with which a run of these events can begin: nodes numbered from 1, no message, no clock past the greatest time of a
-- schedule, groups within the limits, each event within its ranges, and fewer events than any schedule may have lines
pub record IsOpening (w : World) (es : List Event) : Type 0 where
  pub numbered : ids w ≡ range_with_len 1 (length (ids w))
  pub net : w.net ≡ []
  pub clocks : AreBefore MAX_TIME w
  pub limits : IsWithinLimits w
  pub lawful : AllByRecursion (IsEvent (length (ids w))) es
  pub few : length es < MAX_LARGE_LINES
