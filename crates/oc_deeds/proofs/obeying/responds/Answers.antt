use Rattle.std.proofs.Common.{Option, None, Some, sym, ap, ◌∙◌}
use Rattle.std.proofs.lemmas.Result.{err_from_is_err_and}
use Rattle.oc_model.specs.declared.input.Input.{Input}
use Rattle.oc_model.specs.declared.answer.Answer.TheVariants as answers
use Rattle.oc_deeds.specs.Asks.{replies, responds}
use Rattle.oc_deeds.specs.Hurries.{input_hurries}
use Rattle.oc_deeds.proofs.Results.{done_then, err_then, ok_then}
use Rattle.oc_deeds.proofs.obeying.responds.Goals as goal

pub returns-in-Some-clause-did : goal.returns-in-Some-clause-did
returns-in-Some-clause-did g c =
    let s = c.args.doer.now in
    done_then c.accepts_and_responds.result (λ does. c.parts_go_on.ensures.as_same (responds c.args.pending (Some c.in-Some.input) c.args.now) (responds c.args.pending c.args.input c.args.now) s c.accepts_and_responds.new.doer (λ honest. ap (λ (o : Option Input). responds c.args.pending o c.args.now (g.W.Doer.setting s) (g.W.Doer.running s)) c.in-Some.is) does) c.accepts_and_responds.ensures.did

pub returns-in-Some-clause-hurries : goal.returns-in-Some-clause-hurries
returns-in-Some-clause-hurries g c =
    let s = c.args.doer.now in
    ok_then c.accepts_and_responds.result (λ b is honest. is honest ∙ sym (ap (λ (o : Option Input). input_hurries c.args.pending.asked.operation o (g.W.Doer.running s).node) c.in-Some.is)) c.accepts_and_responds.ensures.hurries

pub returns-in-Some-clause-breaks : goal.returns-in-Some-clause-breaks
returns-in-Some-clause-breaks g c =
    let s = c.args.doer.now in
    err_then c.accepts_and_responds.result (λ end stops. c.parts_stop.ensures.as_same end (responds c.args.pending (Some c.in-Some.input) c.args.now) (responds c.args.pending c.args.input c.args.now) s c.accepts_and_responds.new.doer (λ honest. ap (λ (o : Option Input). responds c.args.pending o c.args.now (g.W.Doer.setting s) (g.W.Doer.running s)) c.in-Some.is) stops) c.accepts_and_responds.ensures.breaks

pub returns-in_ok-replies-in-None-clause-did : goal.returns-in_ok-replies-in-None-clause-did
returns-in_ok-replies-in-None-clause-did g c =
    let s = c.args.doer.now in
    c.parts_go_on.ensures.as_same (replies c.args.pending c.args.now answers.Ok None) (responds c.args.pending c.args.input c.args.now) s c.replies.new.self (λ honest. ap (λ (o : Option Input). responds c.args.pending o c.args.now (g.W.Doer.setting s) (g.W.Doer.running s)) c.in-None.is) c.in_ok-replies-in-None.ensures.did

pub returns-in_ok-replies-in-None-clause-hurries : goal.returns-in_ok-replies-in-None-clause-hurries
returns-in_ok-replies-in-None-clause-hurries g c =
    λ honest. c.hurries.ensures ∙ sym (ap (λ (o : Option Input). input_hurries c.args.pending.asked.operation o (g.W.Doer.running c.args.doer.now).node) c.in-None.is)

pub returns-in_err-replies-in-None-clause-breaks : goal.returns-in_err-replies-in-None-clause-breaks
returns-in_err-replies-in-None-clause-breaks g c =
    let p = err_from_is_err_and c.from_residual.result c.from_residual.ensures.1 in
    let s = c.args.doer.now in
    rw (p.1, p.2) (c.parts_stop.ensures.as_same _ (replies c.args.pending c.args.now answers.Ok None) (responds c.args.pending c.args.input c.args.now) s c.replies.new.self (λ honest. ap (λ (o : Option Input). responds c.args.pending o c.args.now (g.W.Doer.setting s) (g.W.Doer.running s)) c.in-None.is) c.in_err-replies-in-None.ensures.breaks)
