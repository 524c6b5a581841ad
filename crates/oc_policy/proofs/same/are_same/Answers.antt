use Rattle.std.proofs.Common.{arith}
use Rattle.oc_policy.proofs.Comparing.{same_more}
use Rattle.oc_policy.proofs.same.are_same.Goals as goal

pub bytes-preserved : goal.bytes-preserved
bytes-preserved c =
    same_more c.bytes.differing c.args.first.now c.args.second.now c.bytes.at (omega arith) (omega arith) c.bytes.invariant
