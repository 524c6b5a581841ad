use Rattle.std.proofs.Common.{[], ◌∷◌, refl, subst}
use Rattle.std.proofs.lemmas.Result.{err_from_is_err_and}
use Rattle.oc_model.specs.Node.{Control}
use Rattle.oc_deeds.specs.Brief.{told_of}
use Rattle.oc_deeds.specs.Deeds.{Takes, Says}
use Rattle.oc_deeds.specs.Parts.{Part, in_turn, one}
use Rattle.oc_deeds.specs.Telling.{IsBefore, says_after, takes_told}
use Rattle.oc_deeds.specs.declared.log.Log.{Log}
use Rattle.oc_deeds.proofs.Doing.{says_told}
use Rattle.oc_deeds.proofs.Results.{done_then, err_then}
use Rattle.oc_deeds.proofs.told.takes_told.Goals as goal

pub returns-in_err-before-clause-breaks : goal.returns-in_err-before-clause-breaks
returns-in_err-before-clause-breaks g c =
    let p = err_from_is_err_and c.from_residual.result c.from_residual.ensures.1 in
    rw (p.1, p.2) (c.may_end.ensures (takes_told c.args.input))

pub returns-in_err-answer-clause-breaks : goal.returns-in_err-answer-clause-breaks
returns-in_err-answer-clause-breaks g c =
    let p = err_from_is_err_and c.from_residual-in_err-answer.result c.from_residual-in_err-answer.ensures.1 in
    let i = c.args.input in
    let told : Part = λ s x. Says (told_of (g.W.Doer.setting c.args.doer.now).log (g.W.Doer.running c.args.doer.now).node i) ∷ [] in
    rw (p.1, p.2) (c.parts_stop.ensures.as_same _ (in_turn (one (Takes i)) told) (takes_told i) c.args.doer.now c.takes.new.self (λ honest. refl) (c.parts_stop.ensures.in_first _ (one (Takes i)) told c.args.doer.now c.takes.new.self c.in_err-answer.ensures.breaks))

pub returns-clause-did : goal.returns-clause-did
returns-clause-did g c =
    let i = c.args.input in
    let a = c.args.doer.now in
    let before = c.in_ok-before.before in
    let told : Part = λ s x. Says (told_of (g.W.Doer.setting c.args.doer.now).log (g.W.Doer.running c.args.doer.now).node i) ∷ [] in
    let known : IsBefore (g.W.Doer.setting c.args.doer.now).log (g.W.Doer.running c.args.doer.now).node.control i before = subst (λ (n : Control). IsBefore (g.W.Doer.setting c.args.doer.now).log n i before) c.node.ensures (subst (λ (l : Log). IsBefore l c.node.result.now.control i before) c.log.ensures c.in_ok-before.ensures) in
    let same = λ (honest : g.W.Doer.honest c.args.doer.now). says_told (Takes i) i (g.W.Doer.setting c.args.doer.now) (g.W.Doer.running c.args.doer.now) (g.W.Doer.running c.takes.new.self) before c.in_ok-answer.answer known refl (c.parts_go_on.ensures.leaves (one (Takes i)) a c.takes.new.self c.in_ok-answer.ensures.did honest) (c.in_ok-answer.ensures.answer honest) in
    done_then c.says_after.result (λ does. c.parts_go_on.ensures.as_same (in_turn (one (Takes i)) told) (takes_told i) a c.says_after.new.self (λ honest. refl) (c.parts_go_on.ensures.follows (one (Takes i)) told (says_after before c.in_ok-answer.answer) a c.takes.new.self c.says_after.new.self c.in_ok-answer.ensures.did same does)) c.says_after.ensures.did

pub returns-clause-breaks : goal.returns-clause-breaks
returns-clause-breaks g c =
    let i = c.args.input in
    let a = c.args.doer.now in
    let before = c.in_ok-before.before in
    let told : Part = λ s x. Says (told_of (g.W.Doer.setting c.args.doer.now).log (g.W.Doer.running c.args.doer.now).node i) ∷ [] in
    let known : IsBefore (g.W.Doer.setting c.args.doer.now).log (g.W.Doer.running c.args.doer.now).node.control i before = subst (λ (n : Control). IsBefore (g.W.Doer.setting c.args.doer.now).log n i before) c.node.ensures (subst (λ (l : Log). IsBefore l c.node.result.now.control i before) c.log.ensures c.in_ok-before.ensures) in
    let same = λ (honest : g.W.Doer.honest c.args.doer.now). says_told (Takes i) i (g.W.Doer.setting c.args.doer.now) (g.W.Doer.running c.args.doer.now) (g.W.Doer.running c.takes.new.self) before c.in_ok-answer.answer known refl (c.parts_go_on.ensures.leaves (one (Takes i)) a c.takes.new.self c.in_ok-answer.ensures.did honest) (c.in_ok-answer.ensures.answer honest) in
    err_then c.says_after.result (λ end stops. c.parts_stop.ensures.as_same _ (in_turn (one (Takes i)) told) (takes_told i) a c.says_after.new.self (λ honest. refl) (c.parts_stop.ensures.follows _ (one (Takes i)) told (says_after before c.in_ok-answer.answer) a c.takes.new.self c.says_after.new.self c.in_ok-answer.ensures.did same stops)) c.says_after.ensures.breaks
