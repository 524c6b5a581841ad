use Rattle.std.proofs.Common.{◌≡◌, List, ℕ, ap, refl, subst, ◌∙◌}
use Rattle.std.proofs.lemmas.Result.{err_from_is_err_and}
use Rattle.oc_link.proofs.Stories.{adds-none}
use Rattle.oc_deeds.specs.Deeds.{Says}
use Rattle.oc_deeds.specs.Telling.{says_after, told_after}
use Rattle.oc_deeds.proofs.Results.{done_then, err_then}
use Rattle.oc_server.proofs.Parts.{does_one}
use Rattle.oc_server.proofs.Steps.{did_line}
use Rattle.oc_server.proofs.Stopping.{line_stops, memory_stops}
use Rattle.oc_server.proofs.doing.ServerDoer.says_after.Goals as goal

pub returns-clause-did : goal.returns-clause-did
returns-clause-did g c =
    let s = c.args.self.now in
    let text = told_after c.args.before s.kept.node.control c.args.answer in
    let is : c.deref.result.now ≡ text = c.deref.ensures.value ∙ c.in_ok-text.ensures ∙ ap (λ n. told_after c.args.before n.control c.args.answer) c.node.ensures in
    done_then c.write_line.result (λ wrote. does_one g.D.Disk.view g.K.Sink.takes g.K.Sink.fails g.K.Sink.faults g.L.Link.story g.L.Link.counts (Says text) (says_after c.args.before c.args.answer) s _ (λ honest. refl)
    (did_line g.D.Disk.view g.K.Sink.takes g.K.Sink.fails g.K.Sink.faults g.L.Link.story g.L.Link.counts (Says text) s c.write_line.new.sink s.works s.link s.tally refl refl c.requires.is_open refl
    (subst (λ (t : List ℕ). g.K.Sink.takes s.sink t c.write_line.new.sink) is wrote) c.write_line.ensures.count (λ all. all) refl (adds-none (g.L.Link.story s.link)))) c.write_line.ensures.wrote

pub returns-clause-breaks : goal.returns-clause-breaks
returns-clause-breaks g c =
    let s = c.args.self.now in
    let text = told_after c.args.before s.kept.node.control c.args.answer in
    let is : c.deref.result.now ≡ text = c.deref.ensures.value ∙ c.in_ok-text.ensures ∙ ap (λ n. told_after c.args.before n.control c.args.answer) c.node.ensures in
    err_then c.write_line.result (λ end stops. line_stops g.D.Disk.view g.K.Sink.takes g.K.Sink.fails g.K.Sink.faults g.L.Link.story g.L.Link.counts g.met.K.Sink.takes_nothing end c.deref.result.now text (Says text) (says_after c.args.before c.args.answer) s (record s { sink = c.write_line.new.sink }) c.requires.is_open (λ honest. refl) refl is refl refl refl stops (c.recovers.ensures.survives c.requires.is_open)) c.write_line.ensures.stops

pub returns-in_err-text-clause-breaks : goal.returns-in_err-text-clause-breaks
returns-in_err-text-clause-breaks g c =
    let p = err_from_is_err_and c.from_residual.result c.from_residual.ensures.1 in
    let s = c.args.self.now in
    rw (p.1, p.2) (memory_stops g.D.Disk.view g.K.Sink.takes g.K.Sink.fails g.K.Sink.faults g.L.Link.story g.L.Link.counts g.met.K.Sink.takes_nothing (says_after c.args.before c.args.answer) s s c.requires.is_open refl refl refl refl (c.recovers.ensures.survives c.requires.is_open))
