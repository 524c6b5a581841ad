use Rattle.std.specs.Prelude.{ℕ}
use Rattle.oc_schedule.specs.declared.fault.LineFault.{LineFault}
use Rattle.oc_schedule.specs.declared.fault.LineFault.TheVariants as lines
use Rattle.oc_merge.specs.declared.fault.Cause.TheVariants.{Said}
use Rattle.oc_merge.specs.declared.fault.RecordsFault.{RecordsFault}
use Rattle.oc_merge.specs.declared.fault.RecordsFault.TheVariants.{Line, Memory}

-- The fault of a text, given the number of a line and its fault, which schedules have too.
abbrev pub fault_at : ℕ → LineFault → RecordsFault
fault_at i (lines.Cause why) = Line i (Said why)
fault_at i lines.Memory = Memory
