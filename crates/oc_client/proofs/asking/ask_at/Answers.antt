use Rattle.std.proofs.Common.{Some, refl}
use Rattle.oc_client.proofs.Moving.{front_whole}
use Rattle.oc_client.proofs.Spoken.{told_so, told_cut, dialled, dial_cut}
use Rattle.oc_client.proofs.asking.ask_at.Goals as goal
use Rattle.oc_client.specs.Turns.{Speaks, asking}
use Rattle.oc_link.specs.Calls.{DialsTo, DialFails}

pub returns-in-Ok-clause-asked : goal.returns-in-Ok-clause-asked
returns-in-Ok-clause-asked g c =
    let address = c.args.address.now in
    let request = c.args.request.now in
    told_so (DialsTo address request) (Speaks (asking (Some address) request)) (dialled address request) (g.L.Dialler.story c.args.link.now) (g.L.Dialler.story c.dial.new.self) c.in-Ok.ensures.dials

pub returns-in-Err-clause-cut : goal.returns-in-Err-clause-cut
returns-in-Err-clause-cut g c =
    let address = c.args.address.now in
    let request = c.args.request.now in
    (refl, told_cut (Some address) request (DialFails address request) (front_whole address) (dial_cut address request) (g.L.Dialler.story c.args.link.now) (g.L.Dialler.story c.dial.new.self) c.in-Err.ensures.fails)
