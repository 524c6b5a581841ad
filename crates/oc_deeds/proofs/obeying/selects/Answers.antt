use Rattle.std.proofs.Common.{ap, sym, ◌∙◌}
use Rattle.std.proofs.lemmas.Result.{err_from_is_err_and}
use Rattle.oc_routes.specs.declared.verdict.Request.{Request}
use Rattle.oc_deeds.specs.Asks.{answers_or_waits, selects}
use Rattle.oc_deeds.specs.Hurries.{input_hurries}
use Rattle.oc_deeds.proofs.Responding.{settled_here}
use Rattle.oc_deeds.proofs.Results.{done_then, err_then, ok_then}
use Rattle.oc_deeds.proofs.obeying.selects.Goals as goal

pub answers_or_waits-requires-clause-request : goal.answers_or_waits-requires-clause-request
answers_or_waits-requires-clause-request g c =
    let running = g.W.Doer.running c.args.doer.now in
    c.in_ok-request.ensures.lawful running.node.control.nodes running.node.control.me c.requires.request c.requires.whole

pub returns-clause-did : goal.returns-clause-did
returns-clause-did g c =
    let s = c.args.doer.now in
    let running = g.W.Doer.running s in
    let request = c.args.request in
    done_then c.answers_or_waits.result (λ does. c.parts_go_on.ensures.as_same (answers_or_waits c.args.connection c.in_ok-request.request c.args.now) (selects c.args.connection request c.args.now) s c.answers_or_waits.new.doer (λ honest. sym (ap (λ (r : Request). answers_or_waits c.args.connection r c.args.now (g.W.Doer.setting s) running) (settled_here request c.in_ok-request.request c.holding_in-holding.result c.shelf.result.now running.node c.in_ok-request.ensures.settled c.holding_in-holding.ensures (c.shelf.ensures honest)))) does) c.answers_or_waits.ensures.did

pub returns-clause-hurries : goal.returns-clause-hurries
returns-clause-hurries g c =
    let s = c.args.doer.now in
    let running = g.W.Doer.running s in
    let request = c.args.request in
    ok_then c.answers_or_waits.result (λ b is honest. is honest ∙ ap (λ (r : Request). input_hurries r.asked.operation r.input running.node) (settled_here request c.in_ok-request.request c.holding_in-holding.result c.shelf.result.now running.node c.in_ok-request.ensures.settled c.holding_in-holding.ensures (c.shelf.ensures honest))) c.answers_or_waits.ensures.hurries

pub returns-clause-breaks : goal.returns-clause-breaks
returns-clause-breaks g c =
    let s = c.args.doer.now in
    let running = g.W.Doer.running s in
    let request = c.args.request in
    err_then c.answers_or_waits.result (λ end stops. c.parts_stop.ensures.as_same end (answers_or_waits c.args.connection c.in_ok-request.request c.args.now) (selects c.args.connection request c.args.now) s c.answers_or_waits.new.doer (λ honest. sym (ap (λ (r : Request). answers_or_waits c.args.connection r c.args.now (g.W.Doer.setting s) running) (settled_here request c.in_ok-request.request c.holding_in-holding.result c.shelf.result.now running.node c.in_ok-request.ensures.settled c.holding_in-holding.ensures (c.shelf.ensures honest)))) stops) c.answers_or_waits.ensures.breaks

pub returns-in_err-request-clause-breaks : goal.returns-in_err-request-clause-breaks
returns-in_err-request-clause-breaks g c =
    let p = err_from_is_err_and c.from_residual.result c.from_residual.ensures.1 in
    rw (p.1, p.2) (c.may_end.ensures (selects c.args.connection c.args.request c.args.now))
