use Rattle.std.proofs.Common.{None, Some, ap, sym, ◌∙◌}
use Rattle.std.proofs.lemmas.Result.{err_from_is_err_and}
use Rattle.oc_model.specs.Node.{Control}
use Rattle.oc_deeds.specs.Asks.{selects, takes_on}
use Rattle.oc_deeds.specs.Deeds.{Refuses}
use Rattle.oc_deeds.proofs.Responding.{condition_hurries, condition_part, condition_told}
use Rattle.oc_deeds.proofs.Results.{done_then, err_then, ok_then}
use Rattle.oc_deeds.specs.Parts.{one}
use Rattle.oc_deeds.proofs.obeying.takes_on.Goals as goal

pub returns-in_ok-refuses-in-Some-clause-did : goal.returns-in_ok-refuses-in-Some-clause-did
returns-in_ok-refuses-in-Some-clause-did g c =
    let s = c.args.doer.now in
    let request = c.args.request in
    c.parts_go_on.ensures.as_same (one (Refuses c.args.connection request.count c.in-Some.refusal)) (takes_on c.args.connection request c.args.now) s c.refuses.new.self (λ honest. condition_part c.args.connection c.args.now request (Some c.in-Some.refusal) (g.W.Doer.setting s) (g.W.Doer.running s) (condition_told request (Some c.in-Some.refusal) c.unmet.result c.id.result c.shelf.result.now (g.W.Doer.running s).node c.unmet.ensures (c.id.ensures ∙ ap (λ (n : Control). n.me) c.node.ensures) (c.shelf.ensures honest) c.in-Some.is)) c.in_ok-refuses-in-Some.ensures.did

pub returns-in_ok-refuses-in-Some-clause-hurries : goal.returns-in_ok-refuses-in-Some-clause-hurries
returns-in_ok-refuses-in-Some-clause-hurries g c =
    let s = c.args.doer.now in
    let request = c.args.request in
    λ honest. sym (condition_hurries c.args.request (Some c.in-Some.refusal) (g.W.Doer.running c.args.doer.now).node (condition_told request (Some c.in-Some.refusal) c.unmet.result c.id.result c.shelf.result.now (g.W.Doer.running s).node c.unmet.ensures (c.id.ensures ∙ ap (λ (n : Control). n.me) c.node.ensures) (c.shelf.ensures honest) c.in-Some.is))

pub returns-in_err-refuses-in-Some-clause-breaks : goal.returns-in_err-refuses-in-Some-clause-breaks
returns-in_err-refuses-in-Some-clause-breaks g c =
    let p = err_from_is_err_and c.from_residual.result c.from_residual.ensures.1 in
    let s = c.args.doer.now in
    let request = c.args.request in
    rw (p.1, p.2) (c.parts_stop.ensures.as_same c.in_err-refuses-in-Some.field-0.0 (one (Refuses c.args.connection request.count c.in-Some.refusal)) (takes_on c.args.connection request c.args.now) s c.refuses.new.self (λ honest. condition_part c.args.connection c.args.now request (Some c.in-Some.refusal) (g.W.Doer.setting s) (g.W.Doer.running s) (condition_told request (Some c.in-Some.refusal) c.unmet.result c.id.result c.shelf.result.now (g.W.Doer.running s).node c.unmet.ensures (c.id.ensures ∙ ap (λ (n : Control). n.me) c.node.ensures) (c.shelf.ensures honest) c.in-Some.is)) c.in_err-refuses-in-Some.ensures.breaks)

pub returns-in-None-clause-did : goal.returns-in-None-clause-did
returns-in-None-clause-did g c =
    let s = c.args.doer.now in
    let request = c.args.request in
    done_then c.selects.result (λ does. c.parts_go_on.ensures.as_same (selects c.args.connection request c.args.now) (takes_on c.args.connection request c.args.now) s c.selects.new.doer (λ honest. condition_part c.args.connection c.args.now request None (g.W.Doer.setting s) (g.W.Doer.running s) (condition_told request None c.unmet.result c.id.result c.shelf.result.now (g.W.Doer.running s).node c.unmet.ensures (c.id.ensures ∙ ap (λ (n : Control). n.me) c.node.ensures) (c.shelf.ensures honest) c.in-None.is)) does) c.selects.ensures.did

pub returns-in-None-clause-hurries : goal.returns-in-None-clause-hurries
returns-in-None-clause-hurries g c =
    let s = c.args.doer.now in
    let request = c.args.request in
    ok_then c.selects.result (λ b is honest. is honest ∙ sym (condition_hurries c.args.request None (g.W.Doer.running c.args.doer.now).node (condition_told request None c.unmet.result c.id.result c.shelf.result.now (g.W.Doer.running s).node c.unmet.ensures (c.id.ensures ∙ ap (λ (n : Control). n.me) c.node.ensures) (c.shelf.ensures honest) c.in-None.is))) c.selects.ensures.hurries

pub returns-in-None-clause-breaks : goal.returns-in-None-clause-breaks
returns-in-None-clause-breaks g c =
    let s = c.args.doer.now in
    let request = c.args.request in
    err_then c.selects.result (λ end stops. c.parts_stop.ensures.as_same end (selects c.args.connection request c.args.now) (takes_on c.args.connection request c.args.now) s c.selects.new.doer (λ honest. condition_part c.args.connection c.args.now request None (g.W.Doer.setting s) (g.W.Doer.running s) (condition_told request None c.unmet.result c.id.result c.shelf.result.now (g.W.Doer.running s).node c.unmet.ensures (c.id.ensures ∙ ap (λ (n : Control). n.me) c.node.ensures) (c.shelf.ensures honest) c.in-None.is)) stops) c.selects.ensures.breaks
