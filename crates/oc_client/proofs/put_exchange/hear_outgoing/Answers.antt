use Rattle.std.proofs.Common.{rules}
use Rattle.oc_client.proofs.Dialled.{outgoing_heard}
use Rattle.oc_client.proofs.put_exchange.hear_outgoing.Goals as goal
use Rattle.oc_client.specs.PutReplies.{Answers}
use Rattle.oc_link.specs.declared.outgoing.Outgoing.{Outgoing}

pub returns-clause-heard : goal.returns-clause-heard
returns-clause-heard g c =
    outgoing_heard (λ (o : Outgoing g.row.L.Denot). record { name = o.link.ghost_name; story = g.L.Dialler.story o.link.now; faults = g.L.Dialler.faults o.link.now })
    g.L.Dialler.story (λ reply over. Answers c.args.asks reply over c.hear.result)
    c.new.result c.hear.new.source c.args.link.now _ c.hear.result (search rules) (search rules) c.hear.ensures.heard
