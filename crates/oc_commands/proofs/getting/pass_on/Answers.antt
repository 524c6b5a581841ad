use Rattle.std.proofs.Common.{ap}
use Rattle.oc_commands.proofs.Gotten.{got_news, got_once}
use Rattle.oc_commands.proofs.getting.pass_on.Goals as goal

pub returns-in-None-clause-downloaded : goal.returns-in-None-clause-downloaded
returns-in-None-clause-downloaded g c =
    let e = c.get.ensures in
    got_once g.K.Sink.takes g.K.Sink.fails g.K.Sink.faults g.L.Dialler.story g.L.Dialler.faults c.args.link.now c.get.new.link c.args.out.now c.get.new.sink c.args.wanted.now c.args.token.now
    c.as_str-address.result.now c.as_str-address.ensures
    (record { from = c.args.wanted.now.start; token = _ }) (ap (λ t. record { from = c.args.wanted.now.start; token = t }) c.text_of.ensures)
    c.get.result e.sink_cause e.link_cause e.bad c.in-None.is e.talked e.complete

pub returns-in-Some-clause-downloaded : goal.returns-in-Some-clause-downloaded
returns-in-Some-clause-downloaded g c =
    let e = c.follow.ensures in
    got_news g.K.Sink.takes g.K.Sink.fails g.K.Sink.faults g.L.Dialler.story g.L.Dialler.faults c.args.link.now c.follow.new.link c.args.out.now c.follow.new.sink c.args.wanted.now c.args.token.now
    c.as_str-address.result.now c.as_str-address.ensures
    (record { from = c.args.wanted.now.start; token = _ }) (ap (λ t. record { from = c.args.wanted.now.start; token = t }) c.text_of.ensures)
    c.follow.result e.sink_cause e.link_cause e.bad c.in-Some.times c.in-Some.is e.talked
