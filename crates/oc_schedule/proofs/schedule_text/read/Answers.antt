use Rattle.std.specs.Str.Lines.{lines}
use Rattle.oc_schedule.proofs.Lawful.{IsSchedule-from_lines}
use Rattle.oc_schedule.proofs.schedule_text.read.Goals as goal

pub returns-clause-lawful : goal.returns-clause-lawful
returns-clause-lawful c = IsSchedule-from_lines c.args.scale (lines c.args.bytes.now) c.read_lines.result c.read_lines.ensures
