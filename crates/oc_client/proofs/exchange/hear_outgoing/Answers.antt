use Rattle.std.proofs.Common.{rules}
use Rattle.std.proofs.lemmas.Result.{IfErr-weaker, on_ok_weaker}
use Rattle.oc_client.proofs.Exchanged.{outgoing_heard, outgoing_last}
use Rattle.oc_client.proofs.exchange.hear_outgoing.Goals as goal
use Rattle.oc_client.specs.Conversations.{LeadsOn, EndsWith}
use Rattle.oc_client.specs.Wishes.{wish_of}
use Rattle.oc_link.specs.declared.outgoing.Outgoing.{Outgoing}

pub returns-clause-heard : goal.returns-clause-heard
returns-clause-heard g c =
    on_ok_weaker c.hear.result (λ h. outgoing_heard (λ (o : Outgoing g.row.L.Denot). record { name = o.link.ghost_name; story = g.L.Dialler.story o.link.now; faults = g.L.Dialler.faults o.link.now })
    g.L.Dialler.story g.K.Sink.takes (λ reply over content. LeadsOn (wish_of c.args.wish.now) c.args.state.now reply over content c.hear.new.state)
    c.new.result c.hear.new.source c.args.link.now _ c.args.sink.now c.hear.new.sink (search rules) (search rules) h) c.hear.ensures.heard

pub returns-clause-last : goal.returns-clause-last
returns-clause-last g c =
    IfErr-weaker c.hear.result _ _ (λ end h. outgoing_last (λ (o : Outgoing g.row.L.Denot). record { name = o.link.ghost_name; story = g.L.Dialler.story o.link.now; faults = g.L.Dialler.faults o.link.now })
    g.L.Dialler.story g.K.Sink.takes g.K.Sink.fails (EndsWith (wish_of c.args.wish.now) c.args.state.now)
    c.new.result c.hear.new.source c.args.link.now _ c.args.sink.now c.hear.new.sink end (search rules) (search rules) h) c.hear.ensures.last
