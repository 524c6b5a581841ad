use Rattle.oc_node.proofs.Reaching.{reached_areas}
use Rattle.oc_node.proofs.node.Node.set_areas.Goals as goal

pub invariant_of-self : goal.invariant_of-self
invariant_of-self c = (c.self.invariant.0, reached_areas c.args.areas.items _ c.self.invariant.1 (rw (← c.self.view_is) at c.requires.many) c.requires.bytes)
