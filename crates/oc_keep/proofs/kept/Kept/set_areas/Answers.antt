use Rattle.std.proofs.Common.{sym, subst}
use Rattle.oc_node.specs.NodeView.{NodeView}
use Rattle.oc_keep.specs.KeptView.{IsKept, kept_of}
use Rattle.oc_keep.proofs.Areas.{kept_areas}
use Rattle.oc_keep.proofs.kept.Kept.set_areas.Goals as goal

pub set_areas-requires-clause-many : goal.set_areas-requires-clause-many
set_areas-requires-clause-many g c = rw (← c.self.view_is) at c.requires.many

pub set_areas-requires-clause-bytes : goal.set_areas-requires-clause-bytes
set_areas-requires-clause-bytes g c = c.requires.bytes

pub invariant_of-self : goal.invariant_of-self
invariant_of-self g c =
    let k = c.self.inside in
    subst (λ (n : NodeView). IsKept g.D.Disk.view (kept_of n k.store k.content k.closed)) (sym c.set_areas.ensures)
    (kept_areas g.D.Disk.view c.args.areas.items (kept_of k.node k.store k.content k.closed) c.self.invariant (rw (← c.self.view_is) at c.requires.many) c.requires.bytes)
