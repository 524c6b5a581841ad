use Rattle.std.proofs.Common.{◌∷◌, [], Bool, is_some, false, refl, ap, sym, ◌∙◌}
use Rattle.std.proofs.lemmas.Result.{err_from_is_err_and}
use Rattle.oc_deeds.specs.Asks.{answers_or_waits, responds, waiting}
use Rattle.oc_deeds.specs.Deeds.{Waits}
use Rattle.oc_deeds.specs.Parts.{Part, in_turn, nothing, one}
use Rattle.oc_deeds.specs.Works.{pending}
use Rattle.oc_deeds.specs.declared.work.Pending.{Pending}
use Rattle.oc_deeds.specs.declared.work.Waiting.{Waiting}
use Rattle.oc_deeds.proofs.Responding.{answers_part, waits_part}
use Rattle.oc_deeds.proofs.Results.{done_then, err_then}
use Rattle.oc_deeds.proofs.obeying.answers_or_waits.Goals as goal

pub returns-in_err-has_to_wait-clause-breaks : goal.returns-in_err-has_to_wait-clause-breaks
returns-in_err-has_to_wait-clause-breaks g c =
    let p = err_from_is_err_and c.from_residual.result c.from_residual.ensures.1 in
    let request = c.args.request in
    let rest : Part = λ s a. answers_or_waits c.args.connection request c.args.now s a in
    rw (p.1, p.2) (c.parts_stop.ensures.as_same _ (in_turn nothing rest) (answers_or_waits c.args.connection request c.args.now) c.args.doer.now c.has_to_wait.new.self (λ honest. refl) (c.parts_stop.ensures.in_first _ nothing rest c.args.doer.now c.has_to_wait.new.self c.in_err-has_to_wait.ensures.breaks))

pub returns-in_err-waits-clause-breaks : goal.returns-in_err-waits-clause-breaks
returns-in_err-waits-clause-breaks g c =
    let p = err_from_is_err_and c.from_residual-in_err-waits.result c.from_residual-in_err-waits.ensures.1 in
    let request = c.args.request in
    let wait = waiting c.args.connection request c.args.now in
    let looked = c.in_ok-has_to_wait.ensures in
    rw (p.1, p.2) (c.parts_stop.ensures.as_same _ (in_turn nothing (one (Waits wait))) (answers_or_waits c.args.connection request c.args.now) c.args.doer.now c.waits.new.self (λ honest. waits_part c.args.connection c.args.now request (g.W.Doer.setting c.args.doer.now) (g.W.Doer.running c.args.doer.now) (sym (looked.waits honest) ∙ c.if-branch.true)) (c.parts_stop.ensures.follows _ nothing (one (Waits wait)) (one (Waits c.waiting.result)) c.args.doer.now c.has_to_wait.new.self c.waits.new.self looked.did (λ honest. ap (λ (x : Waiting). Waits x ∷ []) c.waiting.ensures) c.in_err-waits.ensures.breaks))

pub returns-then-branch-clause-did : goal.returns-then-branch-clause-did
returns-then-branch-clause-did g c =
    let request = c.args.request in
    let wait = waiting c.args.connection request c.args.now in
    let looked = c.in_ok-has_to_wait.ensures in
    c.parts_go_on.ensures.as_same (in_turn nothing (one (Waits wait))) (answers_or_waits c.args.connection request c.args.now) c.args.doer.now c.waits.new.self (λ honest. waits_part c.args.connection c.args.now request (g.W.Doer.setting c.args.doer.now) (g.W.Doer.running c.args.doer.now) (sym (looked.waits honest) ∙ c.if-branch.true)) (c.parts_go_on.ensures.follows nothing (one (Waits wait)) (one (Waits c.waiting.result)) c.args.doer.now c.has_to_wait.new.self c.waits.new.self looked.did (λ honest. ap (λ (x : Waiting). Waits x ∷ []) c.waiting.ensures) c.in_ok-waits.ensures.did)

pub returns-clause-did : goal.returns-clause-did
returns-clause-did g c =
    let request = c.args.request in
    let wait = waiting c.args.connection request c.args.now in
    let looked = c.in_ok-has_to_wait.ensures in
    let is = c.pending_of-pending.ensures ∙ ap (λ (told : Bool). pending c.args.connection request told false) c.is_some.ensures in
    done_then c.responds.result (λ does. c.parts_go_on.ensures.as_same (in_turn nothing (responds (pending c.args.connection request (is_some request.input) false) request.input c.args.now)) (answers_or_waits c.args.connection request c.args.now) c.args.doer.now c.responds.new.doer (λ honest. answers_part c.args.connection c.args.now request (g.W.Doer.setting c.args.doer.now) (g.W.Doer.running c.args.doer.now) (sym (looked.waits honest) ∙ c.if-branch.false)) (c.parts_go_on.ensures.follows nothing (responds (pending c.args.connection request (is_some request.input) false) request.input c.args.now) (responds c.pending_of-pending.result request.input c.args.now) c.args.doer.now c.has_to_wait.new.self c.responds.new.doer looked.did (λ honest. ap (λ (r : Pending). responds r request.input c.args.now (g.W.Doer.setting c.has_to_wait.new.self) (g.W.Doer.running c.has_to_wait.new.self)) is) does)) c.responds.ensures.did

pub returns-clause-breaks : goal.returns-clause-breaks
returns-clause-breaks g c =
    let request = c.args.request in
    let wait = waiting c.args.connection request c.args.now in
    let looked = c.in_ok-has_to_wait.ensures in
    let is = c.pending_of-pending.ensures ∙ ap (λ (told : Bool). pending c.args.connection request told false) c.is_some.ensures in
    err_then c.responds.result (λ end stops. c.parts_stop.ensures.as_same _ (in_turn nothing (responds (pending c.args.connection request (is_some request.input) false) request.input c.args.now)) (answers_or_waits c.args.connection request c.args.now) c.args.doer.now c.responds.new.doer (λ honest. answers_part c.args.connection c.args.now request (g.W.Doer.setting c.args.doer.now) (g.W.Doer.running c.args.doer.now) (sym (looked.waits honest) ∙ c.if-branch.false)) (c.parts_stop.ensures.follows _ nothing (responds (pending c.args.connection request (is_some request.input) false) request.input c.args.now) (responds c.pending_of-pending.result request.input c.args.now) c.args.doer.now c.has_to_wait.new.self c.responds.new.doer looked.did (λ honest. ap (λ (r : Pending). responds r request.input c.args.now (g.W.Doer.setting c.has_to_wait.new.self) (g.W.Doer.running c.has_to_wait.new.self)) is) stops)) c.responds.ensures.breaks
