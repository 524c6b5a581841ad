use Rattle.std.specs.Prelude.{ℕ}
use Rattle.oc_base.specs.declared.why.Why.{Why}
use Rattle.oc_io.specs.declared.read_fault.ReadFault.{ReadFault}
use Rattle.oc_io.specs.declared.read_fault.ReadFault.TheVariants as reading
use Rattle.oc_schedule.specs.declared.fault.ScheduleFault.{ScheduleFault}
use Rattle.oc_schedule.specs.declared.fault.ScheduleFault.TheVariants as schedule
use Rattle.oc_schedule.specs.declared.fault.What.{What}
use Rattle.oc_schedule.specs.declared.fault.What.TheVariants.{Bytes}
use Rattle.oc_replay.specs.declared.fault.ReportFault.{ReportFault}
use Rattle.oc_replay.specs.declared.fault.ReportFault.TheVariants as report
use Rattle.oc_replay.specs.declared.end.ReplayEnd.{ReplayEnd}
use Rattle.oc_replay.specs.declared.end.ReplayEnd.TheVariants.{Done, Text, Limit, Source, Sink, Memory}

-- What holds at each end of a replay.

-- at the end Done
abbrev pub OnDone : ReplayEnd → Type 0 → Type 0
OnDone Done P = P
OnDone end P = Unit {0}

-- at the end Text, for its line and its reason
abbrev pub IfText : ReplayEnd → (ℕ → Why → Type 0) → Type 0
IfText (Text line why) P = P line why
IfText end P = Unit {0}

-- at the end Limit, for its limit
abbrev pub IfLimit : ReplayEnd → (What → Type 0) → Type 0
IfLimit (Limit what) P = P what
IfLimit end P = Unit {0}

-- at the end Source
abbrev pub OnSource : ReplayEnd → Type 0 → Type 0
OnSource Source P = P
OnSource end P = Unit {0}

-- at the end Sink
abbrev pub OnSink : ReplayEnd → Type 0 → Type 0
OnSink Sink P = P
OnSink end P = Unit {0}

-- at the end Memory
abbrev pub OnMemory : ReplayEnd → Type 0 → Type 0
OnMemory Memory P = P
OnMemory end P = Unit {0}

-- at each end at which the input is refused, or was not read to its end
abbrev pub OnRefusal : ReplayEnd → Type 0 → Type 0
OnRefusal (Text line why) P = P
OnRefusal (Limit what) P = P
OnRefusal Source P = P
OnRefusal end P = Unit {0}

-- the end that a fault of reading brings
abbrev pub end_of_reading : ReadFault → ReplayEnd
end_of_reading reading.Failed = Source
end_of_reading reading.TooMany = Limit Bytes
end_of_reading reading.Memory = Memory

-- the end that a fault of a schedule brings
abbrev pub end_of_schedule : ScheduleFault → ReplayEnd
end_of_schedule (schedule.Line line why) = Text line why
end_of_schedule (schedule.Limit what) = Limit what
end_of_schedule schedule.Memory = Memory

-- the end that a fault of a report brings
abbrev pub end_of_report : ReportFault → ReplayEnd
end_of_report report.Sink = Sink
end_of_report report.Memory = Memory
