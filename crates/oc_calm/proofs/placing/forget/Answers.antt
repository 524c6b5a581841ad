use Rattle.std.proofs.Common.{arith}
use Rattle.oc_calm.proofs.KnownPlaces.{forget_more, all_forgotten}
use Rattle.oc_calm.proofs.placing.forget.Goals as goal

pub loop-placed-preserved : goal.loop-placed-preserved
loop-placed-preserved c = forget_more c.loop-placed.known c.loop-placed.placed-index (omega arith) c.loop-placed.invariant

pub returns : goal.returns
returns c = all_forgotten c.loop-placed.known c.loop-placed.placed-index (omega arith) c.loop-placed.invariant
