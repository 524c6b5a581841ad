use Rattle.std.proofs.Common.{map}
use Rattle.oc_link.proofs.ConnectionLists.{written_view, length-grown}
use Rattle.oc_link.proofs.connections.Connections.write.Goals as goal

pub invariant_of-self : goal.invariant_of-self
invariant_of-self c =
    let t = c.self.inside in
    rw (c.extend.ensures, length-grown t.written.strings c.args.bytes.now) c.self.invariant

pub returns : goal.returns
returns c =
    let t = c.self.inside in
    rw c.extend.ensures
    (written_view (map (λ v. v.items) t.given.items) t.past.items t.current t.written.strings t.written.room c.args.bytes.now c.args.self.now c.self.invariant.0 c.requires.«open» c.self.view_is)
