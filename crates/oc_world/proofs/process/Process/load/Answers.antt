use Rattle.oc_world.proofs.Loaded.{copies_hold}
use Rattle.oc_world.proofs.States.{stopped_is}
use Rattle.oc_world.proofs.process.Process.load.Goals as goal

pub load-requires-clause-files : goal.load-requires-clause-files
load-requires-clause-files c =
    let s = c.self.inside in
    let h = s.seat.header in
    let files = c.in-Stopped.files in
    let copied = c.in_ok-copy-in-Stopped.ensures in
    copies_hold h s.seat.id files c.in_ok-copy-in-Stopped.copy (record { control = copied.control; alternate = copied.alternate; content = copied.content }) (stopped_is h s.seat.id s.state files c.in-Stopped.is c.self.invariant.2)
