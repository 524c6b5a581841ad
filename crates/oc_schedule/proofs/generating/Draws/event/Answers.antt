use Rattle.std.proofs.Common.{rules}
use Rattle.oc_schedule.proofs.generating.Draws.event.Goals as goal

-- a tick, a crash and a start take two draws
pub returns-in-0-to-5-clause-state : goal.returns-in-0-to-5-clause-state
returns-in-0-to-5-clause-state c = search rules

pub returns-in-14-clause-state : goal.returns-in-14-clause-state
returns-in-14-clause-state c = search rules

pub returns-in_default-clause-state : goal.returns-in_default-clause-state
returns-in_default-clause-state c = search rules
