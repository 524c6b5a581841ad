use Rattle.std.proofs.Common.{Bool, ap, subst}
use Rattle.oc_client.specs.Lines.{Tells}
use Rattle.oc_commands.specs.Counting.{Fails, Takes}
use Rattle.oc_commands.specs.Telling.{at_error, last_line}
use Rattle.oc_commands.proofs.Posted.{posted, tells_of}
use Rattle.oc_commands.proofs.LinesTold.{never_falls}
use Rattle.oc_commands.proofs.putting.publish.Goals as goal

pub returns-clause-happened : goal.returns-clause-happened
returns-clause-happened g c =
    let e = c.put-end.ensures in
    let first = c.args.aside.now.lines in
    let mid = c.put-end.new.aside.lines in
    let new = c.finish.new.lines in
    let last =
    subst (λ (whole : Bool). Tells (Takes g.E.Sink.takes g.E.Sink.faults) (Fails g.E.Sink.fails g.E.Sink.faults) mid.sink new.sink mid.active new.active (last_line whole mid.count))
    c.is_done.ensures c.finish.ensures in
    posted g.S.Source.gives g.S.Source.fails g.S.Source.ended g.S.Source.faults c.args.input.now c.put-end.new.input g.L.Dialler.story g.L.Dialler.faults c.args.link.now c.put-end.new.link
    c.args.wanted.now c.args.token.now c.put-end.result _ _ _ c.as_str.ensures c.text_of.ensures (ap (λ p. record { place = p; seal = c.args.wanted.now.seals; live = c.args.wanted.now.live }) c.place_of.ensures)
    e.published e.bad e.input_cause e.link_cause (at_error g.E.Sink.takes g.E.Sink.fails g.E.Sink.faults first.sink.sink new.sink.sink)
    (tells_of g.S.Source.gives g.S.Source.fails g.S.Source.ended g.S.Source.faults c.args.input.now c.put-end.new.input g.E.Sink.takes g.E.Sink.fails g.E.Sink.faults g.met.E.Sink.takes_then g.met.E.Sink.takes_fails
    first mid new.sink new.active c.requires.new c.args.wanted.now.progress c.put-end.result c.requires.lines e.within e.input_cause e.told last)

pub returns-clause-error_count : goal.returns-clause-error_count
returns-clause-error_count g c =
    let first = c.args.aside.now.lines in
    let mid = c.put-end.new.aside.lines in
    let new = c.finish.new.lines in
    let (more, grows) = c.put-end.ensures.lines in
    never_falls g.E.Sink.takes g.E.Sink.fails g.E.Sink.faults g.met.E.Sink.takes_then g.met.E.Sink.takes_fails first mid new.sink new.active c.is_done.result more grows c.finish.ensures
