use Rattle.std.proofs.Common.{◌+◌, ◌-◌, ◌<◌, length, sym, arith, subst}
use Rattle.oc_link.specs.DialsView.{DialsView}
use Rattle.oc_link.proofs.DialLists.{begin_view, begin_keeps}
use Rattle.oc_link.proofs.dials.MemDials.begin.Goals as goal

pub invariant_of-self : goal.invariant_of-self
invariant_of-self c =
    let d = c.self.inside in
    let some : 0 < length d.connections.waiting = subst (λ (v : DialsView). 0 < length v.replies) (sym c.self.view_is) c.requires.reply in
    let k = begin_keeps d.connections d.addresses.strings d.addresses.string_room d.refused c.args.address.now c.args.bytes.now c.self.invariant.0 c.self.invariant.1 some c.self.invariant.4 in
    rw (c.write.ensures, c.extend.ensures, c.next.ensures, c.begin.ensures) (k.full, k.fewer, omega arith, omega arith, k.none)

pub returns : goal.returns
returns c =
    let d = c.self.inside in
    rw (c.write.ensures, c.extend.ensures, c.next.ensures, c.begin.ensures)
    (begin_view d.connections d.addresses.strings d.refused d.room (length c.args.address.now + length c.args.bytes.now) (d.connections.room - length c.args.bytes.now) c.args.address.now c.args.bytes.now c.args.self.now c.self.invariant.0 c.self.invariant.4 c.self.view_is)
