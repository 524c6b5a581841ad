use Rattle.std.proofs.Common.{rules}
use Rattle.oc_probe.proofs.rate.rate_of.Goals as goal

pub returns : goal.returns
returns c = search rules
