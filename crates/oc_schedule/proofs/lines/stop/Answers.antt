use Rattle.std.proofs.Common.{rules}
use Rattle.oc_schedule.proofs.lines.stop.Goals as goal

-- the fault of the act, where both numbers are in order
pub returns-in_err-stopped : goal.returns-in_err-stopped
returns-in_err-stopped c = search rules
