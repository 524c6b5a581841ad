use Rattle.std.specs.Prelude.{Option, Some, None}
use Rattle.oc_schedule.specs.declared.builder.ScheduleBuilder.{ScheduleBuilder}
use Rattle.oc_schedule.specs.Script.{Script}

-- the script that the lines so far give, if the header was among them
abbrev pub script_of : Option ScheduleBuilder → Option Script
script_of None = None
script_of (Some d) = Some d.schedule
