use Rattle.std.proofs.Common.{arith}
use Rattle.oc_place.specs.LeftOut.{out_of}
use Rattle.oc_place.proofs.Once.{step_all}
use Rattle.oc_place.proofs.order.put_all.Goals as goal

pub loop-id-preserved : goal.loop-id-preserved
loop-id-preserved c = record {
  once = step_all (out_of c.args.left_out.now) c.loop-id.into.items c.put.new.into.items c.args.ids.now c.loop-id.id-index c.id-item.result _ c.loop-id-test.true c.id-item.is c.put.ensures.items c.loop-id.invariant.once;
  len = omega arith;
  capacity = omega arith;
}
