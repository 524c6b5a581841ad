use Rattle.std.proofs.Common.{List, ℕ, ap, refl, rules, subst, ◌∙◌}
use Rattle.std.proofs.lemmas.Result.{err_from_is_err_and}
use Rattle.oc_node.specs.OutcomeView.{OutcomeView}
use Rattle.oc_server.proofs.Takes.{did_take, keep_breaks, memory_before, write_breaks_as}
use Rattle.oc_server.proofs.server.Server.takes.Goals as goal

pub returns-clause-did : goal.returns-clause-did
returns-clause-did g c =
    let s = c.args.self.now in
    did_take g.D.Disk.view g.K.Sink.takes g.K.Sink.fails g.K.Sink.faults g.L.Link.story g.L.Link.counts c.args.input c.in_ok-outcome.outcome s _ c.requires.serving.is_open c.in_ok-outcome.ensures.kept
    (subst (λ (t : List ℕ). g.K.Sink.takes s.sink t c.write_line.new.sink) (c.deref.ensures.value ∙ c.in_ok-line.ensures) c.in_ok-write_line.ensures.wrote) c.write_line.ensures.count
    refl refl refl refl refl refl (search rules) (search rules)

pub returns-in_err-line-clause-breaks : goal.returns-in_err-line-clause-breaks
returns-in_err-line-clause-breaks g c =
    let p = err_from_is_err_and c.from_residual.result c.from_residual.ensures.1 in
    rw (p.1, p.2) (memory_before g.D.Disk.view g.K.Sink.takes g.K.Sink.fails g.K.Sink.faults g.L.Link.story g.L.Link.counts g.met.K.Sink.takes_nothing c.args.input c.args.self.now (c.recovers.ensures.survives c.requires.serving.is_open))

pub returns-in_err-prior-clause-breaks : goal.returns-in_err-prior-clause-breaks
returns-in_err-prior-clause-breaks g c =
    let p = err_from_is_err_and c.from_residual-in_err-prior.result c.from_residual-in_err-prior.ensures.1 in
    rw (p.1, p.2) (memory_before g.D.Disk.view g.K.Sink.takes g.K.Sink.fails g.K.Sink.faults g.L.Link.story g.L.Link.counts g.met.K.Sink.takes_nothing c.args.input c.args.self.now (c.recovers.ensures.survives c.requires.serving.is_open))

pub returns-in_err-outcome-clause-breaks : goal.returns-in_err-outcome-clause-breaks
returns-in_err-outcome-clause-breaks g c =
    let p = err_from_is_err_and c.from_residual-in_err-outcome.result c.from_residual-in_err-outcome.ensures.1 in
    rw (p.1, p.2) (keep_breaks g.D.Disk.view g.K.Sink.takes g.K.Sink.fails g.K.Sink.faults g.L.Link.story g.L.Link.counts g.met.K.Sink.takes_nothing c.in_err-outcome.field-0.0 c.args.input c.args.self.now _ refl refl refl c.in_err-outcome.ensures.stops)

pub returns-in_err-write_line-clause-breaks : goal.returns-in_err-write_line-clause-breaks
returns-in_err-write_line-clause-breaks g c =
    let p = err_from_is_err_and c.from_residual-in_err-write_line.result c.from_residual-in_err-write_line.ensures.1 in
    rw (p.1, p.2) (write_breaks_as g.D.Disk.view g.K.Sink.takes g.K.Sink.fails g.K.Sink.faults g.L.Link.story g.L.Link.counts c.in_err-write_line.field-0.0 c.args.input c.in_ok-outcome.outcome c.args.self.now _ _ (c.deref.ensures.value ∙ c.in_ok-line.ensures) refl refl c.in_ok-outcome.ensures.kept c.in_err-write_line.ensures.stops)

pub returns-clause-answer : goal.returns-clause-answer
returns-clause-answer g c = λ honest. ap (λ (o : OutcomeView). o.answer) (c.outcome.view_is ∙ c.in_ok-outcome.ensures.kept.outcome_is honest)
