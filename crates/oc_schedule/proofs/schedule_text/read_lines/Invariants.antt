use Rattle.std.proofs.Common.{◌≡◌, None, length}
use Rattle.std.specs.Str.Lines.{lines}
use Rattle.oc_schedule.specs.Builder.{script_of}
use Rattle.oc_schedule.specs.Schedule.{read_lines}
use Rattle.oc_schedule.proofs.schedule_text.read_lines.Given as goal

-- the rest of the text gives the result of the whole text
abbrev pub invariant-lines : goal.invariant-lines
invariant-lines l = read_lines l.scale l.number (script_of l.builder) (lines l.rest) ≡ read_lines l.scale 1 None (lines l.bytes)

abbrev pub decreases-lines : goal.decreases-lines
decreases-lines l = length l.rest
