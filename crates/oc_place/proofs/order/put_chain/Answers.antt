use Rattle.std.proofs.Common.{arith}
use Rattle.oc_place.specs.LeftOut.{out_of}
use Rattle.oc_place.proofs.Once.{step_chain}
use Rattle.oc_place.proofs.order.put_chain.Goals as goal

pub loop-before-preserved : goal.loop-before-preserved
loop-before-preserved c = record {
  once = step_chain (out_of c.args.left_out.now) c.loop-before.into.items c.put.new.into.items c.args.chain c.loop-before.before _ c.loop-before-test.true c.put.ensures.items c.loop-before.invariant.once;
  len = omega arith;
  capacity = omega arith;
}
