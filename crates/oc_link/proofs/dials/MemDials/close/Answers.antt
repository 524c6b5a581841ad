use Rattle.oc_link.proofs.DialLists.{over_view}
use Rattle.oc_link.proofs.dials.MemDials.close.Goals as goal

pub returns : goal.returns
returns c =
    let d = c.self.inside in
    over_view d.connections c.close.new.self d.addresses.strings d.refused d.room c.args.self.now c.close.ensures c.self.invariant.0 c.self.invariant.4 c.self.view_is
