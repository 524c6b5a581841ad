use Rattle.oc_node.proofs.Candidates.{candidates_go_on}
use Rattle.oc_node.proofs.looking.candidates.Goals as goal

pub loop-child-preserved : goal.loop-child-preserved
loop-child-preserved c = candidates_go_on c.args.step.now.plan.node c.args.children.now c.loop-child.child-index c.child-item.result c.loop-child.list.items c.push_candidate.new.list.items _ c.loop-child-test.true c.child-item.is c.in_ok-push_candidate.ensures c.loop-child.invariant
