use Rattle.oc_link.proofs.DialLists.{heard_view, same-connection}
use Rattle.oc_link.proofs.dials.MemDials.read.Goals as goal

pub returns-clause-count : goal.returns-clause-count
returns-clause-count c =
    let d = c.self.inside in
    rw (← same-connection d.connections d.addresses.strings d.refused d.room c.args.self.now c.self.view_is) c.read.ensures.count

pub returns-clause-bytes : goal.returns-clause-bytes
returns-clause-bytes c =
    let d = c.self.inside in
    rw (← same-connection d.connections d.addresses.strings d.refused d.room c.args.self.now c.self.view_is) c.read.ensures.bytes

pub returns-clause-view : goal.returns-clause-view
returns-clause-view c =
    let d = c.self.inside in
    heard_view c.read.result d.connections c.read.new.self d.addresses.strings d.refused d.room c.args.self.now c.self.view_is c.read.ensures.view
