use Rattle.oc_client.proofs.Dialled.{exchanged, unexchanged}
use Rattle.oc_client.proofs.put_exchange.exchange.Goals as goal

pub returns-in-Ok-clause-dialled : goal.returns-in-Ok-clause-dialled
returns-in-Ok-clause-dialled g c =
    exchanged g.L.Dialler.story c.args.address.now c.args.request.now c.args.asks c.hear_outgoing-answer.result (g.L.Dialler.story c.args.link.now) c.dial.new.self c.hear_outgoing-answer.new.link (g.L.Dialler.story c.hang_up.new.self) c.in-Ok.ensures.dials c.hear_outgoing-answer.ensures.heard c.hang_up.ensures.story

pub returns-in-Err-clause-dialled : goal.returns-in-Err-clause-dialled
returns-in-Err-clause-dialled g c =
    unexchanged c.args.address.now c.args.request.now c.args.asks (g.L.Dialler.story c.args.link.now) (g.L.Dialler.story c.dial.new.self) (g.L.Dialler.story c.hang_up-in-Err.new.self) c.in-Err.ensures.fails c.hang_up-in-Err.ensures.story
