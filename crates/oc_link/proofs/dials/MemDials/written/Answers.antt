use Rattle.std.proofs.Common.{◌∙◌, sym, arith, ◌++◌}
use Rattle.std.specs.Option.{option_to_list}
use Rattle.oc_link.proofs.DialLists.{placed, written-first, written-refused, written-nowhere}
use Rattle.oc_link.proofs.dials.MemDials.written.Goals as goal

pub returns-then-at-taken : goal.returns-then-at-taken
returns-then-at-taken c =
    let d = c.self.inside in
    let p = placed d.connections d.addresses.strings d.refused d.room c.args.self.now c.self.invariant.0 c.self.invariant.4 c.self.view_is in
    c.written.ensures ∙ sym (written-first c.args.self.now (d.connections.past ++ option_to_list d.connections.current) d.addresses.strings d.refused c.args.at p (omega arith))

pub returns-then-at-taken-2 : goal.returns-then-at-taken-2
returns-then-at-taken-2 c =
    let d = c.self.inside in
    let p = placed d.connections d.addresses.strings d.refused d.room c.args.self.now c.self.invariant.0 c.self.invariant.4 c.self.view_is in
    written-refused c.args.self.now (d.connections.past ++ option_to_list d.connections.current) d.addresses.strings d.refused c.args.at p (omega arith) (omega arith)

pub returns-else-at-taken-2 : goal.returns-else-at-taken-2
returns-else-at-taken-2 c =
    let d = c.self.inside in
    let p = placed d.connections d.addresses.strings d.refused d.room c.args.self.now c.self.invariant.0 c.self.invariant.4 c.self.view_is in
    written-nowhere c.args.self.now (d.connections.past ++ option_to_list d.connections.current) d.addresses.strings d.refused c.args.at p (omega arith) (omega arith)
