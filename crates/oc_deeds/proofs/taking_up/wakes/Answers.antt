use Rattle.std.proofs.Common.{Option, ap, sym}
use Rattle.std.proofs.lemmas.Result.{err_from_is_err_and}
use Rattle.oc_model.specs.declared.input.Input.{Input}
use Rattle.oc_deeds.specs.Asks.{responds, wakes}
use Rattle.oc_deeds.proofs.taking_up.wakes.Goals as goal

pub returns-clause-did : goal.returns-clause-did
returns-clause-did g c =
    let s = c.args.doer.now in
    c.parts_go_on.ensures.as_same (responds c.args.pending c.client_input-input.result c.args.now) (wakes c.args.pending c.args.now) s c.responds.new.doer (λ honest. ap (λ (o : Option Input). responds c.args.pending o c.args.now (g.W.Doer.setting s) (g.W.Doer.running s)) (sym c.client_input-input.ensures)) c.in_ok-_hurries.ensures.did

pub returns-in_err-_hurries-clause-breaks : goal.returns-in_err-_hurries-clause-breaks
returns-in_err-_hurries-clause-breaks g c =
    let p = err_from_is_err_and c.from_residual.result c.from_residual.ensures.1 in
    let s = c.args.doer.now in
    rw (p.1, p.2) (c.parts_stop.ensures.as_same c.in_err-_hurries.field-0.0 (responds c.args.pending c.client_input-input.result c.args.now) (wakes c.args.pending c.args.now) s c.responds.new.doer (λ honest. ap (λ (o : Option Input). responds c.args.pending o c.args.now (g.W.Doer.setting s) (g.W.Doer.running s)) (sym c.client_input-input.ensures)) c.in_err-_hurries.ensures.breaks)
