use Rattle.std.proofs.Common.{◌≡◌, ◌∷◌, ◌++◌, [], map, arith}
use Rattle.std.proofs.lemmas.List.{length-map}
use Rattle.oc_link.proofs.ConnectionLists.{ended_view}
use Rattle.oc_link.proofs.connections.Connections.close.Goals as goal

pub returns-in-Some : goal.returns-in-Some
returns-in-Some c =
    let t = c.self.inside in
    let items : c.push.new.self.items ≡ t.past.items ++ c.in-Some.progress ∷ [] = rw c.unwrap.ensures at c.push.ensures.items in
    let strings = rw c.in-Some.is at c.self.invariant.0 in
    ended_view (map (λ v. v.items) t.given.items) t.past.items c.push.new.self.items t.current t.written.strings c.in-Some.progress t.written.room c.args.self.now
    (rw length-map (omega arith)) (omega arith) items c.in-Some.is c.self.view_is
