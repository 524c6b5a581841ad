-- Acts whose ticks are within the range of a clock.
use Rattle.std.specs.Prelude.{◌≤◌, List}
use Rattle.std.specs.List.{AllByRecursion}
use Rattle.oc_base.specs.declared.limits.TheConstants.{LAST_SECOND}
use Rattle.oc_model.specs.declared.event.Act.{Act}
use Rattle.oc_model.specs.declared.event.Act.TheVariants as acts
use Rattle.oc_model.specs.declared.input.Input.TheVariants as inputs

-- a tick up to the last second of a clock, or an act that is no tick
abbrev pub IsTimely : Act → Type 0
IsTimely (acts.At x (inputs.Tick t)) = t ≤ LAST_SECOND
IsTimely a = Unit {0}

abbrev pub AreTimely : List Act → Type 0
AreTimely as' = AllByRecursion IsTimely as'
