use Rattle.std.proofs.Common.{map, refl}
use Rattle.oc_link.proofs.ConnectionLists.{begun_view}
use Rattle.oc_link.proofs.connections.Connections.next.Goals as goal

pub returns : goal.returns
returns c =
    let t = c.self.inside in
    rw c.begin.ensures
    (begun_view (map (λ v. v.items) t.given.items) t.past.items t.current t.written.strings _ t.written.room c.close.new.self c.args.self.now c.close.ensures c.self.invariant.0 c.self.view_is refl)
