use Rattle.std.proofs.Common.{rules}
use Rattle.oc_schedule.proofs.generating.generate.Goals as goal

-- the starts, and then the events of the draws from the seed
pub returns : goal.returns
returns c = search rules
