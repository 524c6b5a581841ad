use Rattle.std.proofs.Common.{List, Option, IfSome, ℕ, ap, refl, rules, subst, sym, ◌∙◌}
use Rattle.oc_model.specs.declared.message.Message.{Message}
use Rattle.std.proofs.lemmas.Result.{err_from_is_err_and}
use Rattle.oc_node.specs.OutcomeView.{OutcomeView}
use Rattle.oc_deeds.specs.Deeds.{back_to, sender_of, Accepts}
use Rattle.oc_deeds.specs.Sending.{AreSendable}
use Rattle.oc_wire.specs.Spelling.{HasSpelling}
use Rattle.oc_deeds.proofs.Messages.{back_has_text}
use Rattle.oc_server.proofs.Takes.{did_accept, keep_breaks, memory_before, write_breaks_as}
use Rattle.oc_server.proofs.Parts.{does_one}
use Rattle.oc_server.proofs.Stopping.{accepts_stops}
use Rattle.oc_deeds.specs.Parts.{one}
use Rattle.oc_deeds.specs.declared.ends.TurnEnd.TheVariants as ends
use Rattle.oc_server.proofs.doing.ServerDoer.accepts.Goals as goal

pub returns-clause-did : goal.returns-clause-did
returns-clause-did g c =
    let s = c.args.self.now in
    let new = record s { kept = c.keep.new.kept; sink = c.write_line.new.sink; outbox = c.put_all.new.outbox; tally = c.count_taken.new.tally } in
    does_one g.D.Disk.view g.K.Sink.takes g.K.Sink.fails g.K.Sink.faults g.L.Link.story g.L.Link.counts (Accepts c.args.input) (one (Accepts c.args.input)) s new (λ honest. refl)
    (did_accept g.D.Disk.view g.K.Sink.takes g.K.Sink.fails g.K.Sink.faults g.L.Link.story g.L.Link.counts c.args.input c.in_ok-outcome.outcome s new c.requires.serving.is_open c.in_ok-outcome.ensures.kept
    (subst (λ (t : List ℕ). g.K.Sink.takes s.sink t c.write_line.new.sink) (c.deref.ensures.value ∙ c.in_ok-line.ensures) c.in_ok-write_line.ensures.wrote) c.write_line.ensures.count
    refl refl refl refl refl refl (search rules) (search rules))

pub returns-in_err-line-clause-breaks : goal.returns-in_err-line-clause-breaks
returns-in_err-line-clause-breaks g c =
    let p = err_from_is_err_and c.from_residual.result c.from_residual.ensures.1 in
    rw (p.1, p.2) (accepts_stops g.D.Disk.view g.K.Sink.takes g.K.Sink.fails g.K.Sink.faults g.L.Link.story g.L.Link.counts g.met.K.Sink.takes_nothing ends.Memory c.args.input (one (Accepts c.args.input)) c.args.self.now _ c.requires.serving.is_open (λ honest. refl)
    (memory_before g.D.Disk.view g.K.Sink.takes g.K.Sink.fails g.K.Sink.faults g.L.Link.story g.L.Link.counts g.met.K.Sink.takes_nothing c.args.input c.args.self.now (c.recovers.ensures.survives c.requires.serving.is_open)))

pub returns-in_err-prior-clause-breaks : goal.returns-in_err-prior-clause-breaks
returns-in_err-prior-clause-breaks g c =
    let p = err_from_is_err_and c.from_residual-in_err-prior.result c.from_residual-in_err-prior.ensures.1 in
    rw (p.1, p.2) (accepts_stops g.D.Disk.view g.K.Sink.takes g.K.Sink.fails g.K.Sink.faults g.L.Link.story g.L.Link.counts g.met.K.Sink.takes_nothing ends.Memory c.args.input (one (Accepts c.args.input)) c.args.self.now _ c.requires.serving.is_open (λ honest. refl)
    (memory_before g.D.Disk.view g.K.Sink.takes g.K.Sink.fails g.K.Sink.faults g.L.Link.story g.L.Link.counts g.met.K.Sink.takes_nothing c.args.input c.args.self.now (c.recovers.ensures.survives c.requires.serving.is_open)))

pub returns-in_err-outcome-clause-breaks : goal.returns-in_err-outcome-clause-breaks
returns-in_err-outcome-clause-breaks g c =
    let p = err_from_is_err_and c.from_residual-in_err-outcome.result c.from_residual-in_err-outcome.ensures.1 in
    rw (p.1, p.2) (accepts_stops g.D.Disk.view g.K.Sink.takes g.K.Sink.fails g.K.Sink.faults g.L.Link.story g.L.Link.counts g.met.K.Sink.takes_nothing c.in_err-outcome.field-0.0 c.args.input (one (Accepts c.args.input)) c.args.self.now _ c.requires.serving.is_open (λ honest. refl)
    (keep_breaks g.D.Disk.view g.K.Sink.takes g.K.Sink.fails g.K.Sink.faults g.L.Link.story g.L.Link.counts g.met.K.Sink.takes_nothing c.in_err-outcome.field-0.0 c.args.input c.args.self.now _ refl refl refl c.in_err-outcome.ensures.stops))

pub returns-in_err-write_line-clause-breaks : goal.returns-in_err-write_line-clause-breaks
returns-in_err-write_line-clause-breaks g c =
    let p = err_from_is_err_and c.from_residual-in_err-write_line.result c.from_residual-in_err-write_line.ensures.1 in
    rw (p.1, p.2) (accepts_stops g.D.Disk.view g.K.Sink.takes g.K.Sink.fails g.K.Sink.faults g.L.Link.story g.L.Link.counts g.met.K.Sink.takes_nothing c.in_err-write_line.field-0.0 c.args.input (one (Accepts c.args.input)) c.args.self.now _ c.requires.serving.is_open (λ honest. refl)
    (write_breaks_as g.D.Disk.view g.K.Sink.takes g.K.Sink.fails g.K.Sink.faults g.L.Link.story g.L.Link.counts c.in_err-write_line.field-0.0 c.args.input c.in_ok-outcome.outcome c.args.self.now _ _ (c.deref.ensures.value ∙ c.in_ok-line.ensures) refl refl c.in_ok-outcome.ensures.kept c.in_err-write_line.ensures.stops))

pub returns-clause-answer : goal.returns-clause-answer
returns-clause-answer g c = λ honest. ap (λ (o : OutcomeView). o.answer) (c.outcome.view_is ∙ c.in_ok-outcome.ensures.kept.outcome_is honest)

pub returns-clause-back : goal.returns-clause-back
returns-clause-back g c = λ honest.
    c.held_back-back.ensures.back ∙ ap (λ (x : Option ℕ). back_to x c.outcome.inside.sends.items) c.in_ok-prior.ensures.sender
    ∙ ap (λ (o : OutcomeView). back_to (sender_of c.args.input) o.sends) (c.outcome.view_is ∙ c.in_ok-outcome.ensures.kept.outcome_is honest)

pub returns-clause-text : goal.returns-clause-text
returns-clause-text g c =
    let nodes = c.args.self.now.kept.node.control.nodes in
    subst (λ (back : Option Message). IfSome back (λ m. HasSpelling m.body)) (sym c.held_back-back.ensures.back)
    (back_has_text nodes c.outcome.inside.sends.items c.in_ok-prior.prior.sender
    (subst (λ (o : OutcomeView). AreSendable nodes o.sends) (sym c.outcome.view_is) c.in_ok-outcome.ensures.kept.sendable))
