use Rattle.std.proofs.Common.{Bool, subst}
use Rattle.oc_client.specs.Lines.{Tells}
use Rattle.oc_commands.specs.Counting.{Fails, Takes}
use Rattle.oc_commands.specs.Outside.{at_link}
use Rattle.oc_commands.specs.Telling.{last_line}
use Rattle.oc_commands.proofs.Gotten.{gotten, gotten_count}
use Rattle.oc_commands.proofs.getting.download.Goals as goal

pub returns-clause-happened : goal.returns-clause-happened
returns-clause-happened g c =
    let mid = c.pass_on-end.new.out in
    let last =
    subst (λ (whole : Bool). Tells (Takes g.E.Sink.takes g.E.Sink.faults) (Fails g.E.Sink.fails g.E.Sink.faults) mid.lines.sink c.finish.new.lines.sink mid.lines.active c.finish.new.lines.active (last_line whole mid.lines.count))
    c.is_done.ensures c.finish.ensures in
    gotten g.K.Sink.takes g.K.Sink.fails g.K.Sink.faults g.E.Sink.takes g.E.Sink.fails g.E.Sink.faults g.met.E.Sink.takes_then g.met.E.Sink.takes_fails c.args.out.now mid c.finish.new.lines
    (at_link g.L.Dialler.story g.L.Dialler.faults c.args.link.now c.pass_on-end.new.link) c.args.wanted.now c.args.token.now c.pass_on-end.result c.pass_on-end.ensures.downloaded last c.requires.new c.requires.lines

pub returns-clause-error_count : goal.returns-clause-error_count
returns-clause-error_count g c =
    let mid = c.pass_on-end.new.out in
    gotten_count g.K.Sink.takes g.K.Sink.fails g.K.Sink.faults g.E.Sink.takes g.E.Sink.fails g.E.Sink.faults g.met.E.Sink.takes_then g.met.E.Sink.takes_fails c.args.out.now mid c.finish.new.lines
    (at_link g.L.Dialler.story g.L.Dialler.faults c.args.link.now c.pass_on-end.new.link) c.args.wanted.now c.args.token.now c.pass_on-end.result c.is_done.result c.pass_on-end.ensures.downloaded c.finish.ensures
