use Rattle.std.proofs.Common.{None, refl}
use Rattle.oc_client.proofs.Spoken.{told_so, told_cut, said, said_cut}
use Rattle.oc_client.proofs.asking.ask_again.Goals as goal
use Rattle.oc_client.specs.Turns.{Speaks, asking}
use Rattle.oc_link.specs.Exchange.{Says, SaysFrontThenBreaks}
use Rattle.oc_link.specs.Calls.{OnOutgoing}

pub returns-in-Ok-clause-asked : goal.returns-in-Ok-clause-asked
returns-in-Ok-clause-asked g c =
    let request = c.args.request.now in
    told_so (OnOutgoing (Says request)) (Speaks (asking None request)) (said request) (g.L.Dialler.story c.args.link.now) (g.L.Dialler.story c.dial_more.new.self) c.in-Ok.ensures.writes

pub returns-in-Err-clause-cut : goal.returns-in-Err-clause-cut
returns-in-Err-clause-cut g c =
    let request = c.args.request.now in
    (refl, told_cut None request (OnOutgoing (SaysFrontThenBreaks request)) tt (said_cut request) (g.L.Dialler.story c.args.link.now) (g.L.Dialler.story c.dial_more.new.self) c.in-Err.ensures.breaks)
