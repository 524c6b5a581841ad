use Rattle.oc_step.proofs.ToldChildren.{but_go_on}
use Rattle.oc_step.proofs.told.leave_out.Goals as goal

pub loop-child-preserved : goal.loop-child-preserved
loop-child-preserved c = but_go_on c.args.out.now c.args.children.now c.loop-child.child-index c.child-item.result c.loop-child.told.items c.push_but.new.told.items _ c.loop-child-test.true c.child-item.is c.in_ok-push_but.ensures c.loop-child.invariant
