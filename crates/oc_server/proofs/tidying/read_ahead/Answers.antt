use Rattle.oc_server.proofs.Looking.{looked}
use Rattle.oc_server.proofs.Turned.{failed_stops}
use Rattle.oc_server.proofs.tidying.read_ahead.Goals as goal

pub returns-in-Ok-clause-looks : goal.returns-in-Ok-clause-looks
returns-in-Ok-clause-looks g c =
    looked g.D.Disk.view c.args.kept.now c.read_ahead.new.self c.requires.open c.in-Ok.ensures.open.1 c.read_ahead.ensures.same

pub returns-in-Err-clause-stops : goal.returns-in-Err-clause-stops
returns-in-Err-clause-stops g c =
    failed_stops g.D.Disk.view (λ x h. g.met.D.Disk.consistent x h) c.args.kept.now c.read_ahead.new.self c.requires.open c.read_ahead.ensures.same c.in-Err.ensures.failed
