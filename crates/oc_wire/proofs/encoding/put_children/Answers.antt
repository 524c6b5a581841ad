use Rattle.oc_base.specs.Spelling.{two}
use Rattle.oc_wire.proofs.Puts.{item_more}
use Rattle.oc_wire.specs.Spelling.{child_bytes}
use Rattle.oc_wire.proofs.encoding.put_children.Goals as goal

pub loop-child-preserved : goal.loop-child-preserved
loop-child-preserved c = item_more child_bytes c.items-children.result.now c.loop-child.child-index c.child-item.result c.args.out.now.items (two _) c.loop-child.out.items _ c.loop-child-test.true c.child-item.is c.loop-child.invariant c.in_ok-put_child.ensures
