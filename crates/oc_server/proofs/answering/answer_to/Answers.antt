use Rattle.std.proofs.Common.{Err, ap, ◌∙◌}
use Rattle.oc_keep.specs.declared.errors.ReadyError.{ReadyError}
use Rattle.oc_model.specs.Node.{Outcome}
use Rattle.oc_server.proofs.Looking.{looked}
use Rattle.oc_server.proofs.Turned.{ready_stops}
use Rattle.oc_server.proofs.answering.answer_to.Goals as goal

pub returns-in-Ok-clause-answer : goal.returns-in-Ok-clause-answer
returns-in-Ok-clause-answer g c = λ honest. c.answer.ensures ∙ ap (λ (o : Outcome). o.answer) (c.in-Ok.ensures.made.step_is honest)

pub returns-in-Ok-clause-looks : goal.returns-in-Ok-clause-looks
returns-in-Ok-clause-looks g c = looked g.D.Disk.view c.args.kept.now c.ready.new.self c.requires.open (c.in-Ok.ensures.made.still ∙ c.requires.open) c.ready.ensures.same

pub returns-clause-stops : goal.returns-clause-stops
returns-clause-stops g c =
    let t = c.in-Err.ensures in
    rw c.end_of.ensures
    (ready_stops g.D.Disk.view (λ x h. g.met.D.Disk.consistent x h) c.args.kept.now c.ready.new.self c.in-Err.error c.args.input c.requires.open c.ready.ensures.same
    (λ e. t.closed.0 (ap (λ (x : ReadyError). Err x) e)) t.refused c.recovers.ensures.survives)
