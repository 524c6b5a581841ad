use Rattle.std.proofs.Common.{Option, Some, ap, refl, ◌∙◌}
use Rattle.std.proofs.lemmas.Result.{err_from_is_err_and}
use Rattle.oc_model.specs.Step.{step}
use Rattle.oc_model.specs.declared.answer.Answer.{Answer}
use Rattle.oc_model.specs.declared.message.Message.{Message}
use Rattle.oc_deeds.specs.Asks.{replies, responds}
use Rattle.oc_deeds.specs.Deeds.{back_to, sender_of}
use Rattle.oc_deeds.specs.Hurries.{hurries}
use Rattle.oc_deeds.specs.Parts.{Part, in_turn}
use Rattle.oc_deeds.specs.Telling.{accepts_in}
use Rattle.oc_deeds.proofs.obeying.accepts_and_responds.Goals as goal

pub replies-requires-clause-serving : goal.replies-requires-clause-serving
replies-requires-clause-serving g c =
    c.parts_go_on.ensures.stays_serving (accepts_in c.args.input) c.args.doer.now c.accepts_in.new.doer c.in_ok-accepted.ensures.did c.requires.serving

pub returns-clause-did : goal.returns-clause-did
returns-clause-did g c =
    let r = c.args.pending in
    let i = c.args.input in
    let now = c.args.now in
    let told : Part = replies r now (step (g.W.Doer.running c.args.doer.now).node i).answer (back_to (sender_of i) (step (g.W.Doer.running c.args.doer.now).node i).sends) in
    let accepted = c.in_ok-accepted.accepted in
    let same = λ (honest : g.W.Doer.honest c.args.doer.now).
    ap (λ (x : Answer). replies r now x accepted.back (g.W.Doer.setting c.accepts_in.new.doer) (g.W.Doer.running c.accepts_in.new.doer)) (c.in_ok-accepted.ensures.answer honest)
    ∙ ap (λ (x : Option Message). replies r now (step (g.W.Doer.running c.args.doer.now).node i).answer x (g.W.Doer.setting c.accepts_in.new.doer) (g.W.Doer.running c.accepts_in.new.doer)) (c.in_ok-accepted.ensures.back honest) in
    c.parts_go_on.ensures.as_same (in_turn (accepts_in i) told) (responds r (Some i) now) c.args.doer.now c.replies.new.self (λ honest. refl) (c.parts_go_on.ensures.follows (accepts_in i) told (replies r now c.in_ok-accepted.accepted.answer c.in_ok-accepted.accepted.back) c.args.doer.now c.accepts_in.new.doer c.replies.new.self c.in_ok-accepted.ensures.did same c.in_ok-replies.ensures.did)

pub returns-clause-hurries : goal.returns-clause-hurries
returns-clause-hurries g c =
    λ honest. c.hurries.ensures ∙ ap (λ (a : Answer). hurries c.args.pending.asked.operation a) (c.in_ok-accepted.ensures.answer honest)

pub returns-in_err-accepted-clause-breaks : goal.returns-in_err-accepted-clause-breaks
returns-in_err-accepted-clause-breaks g c =
    let p = err_from_is_err_and c.from_residual.result c.from_residual.ensures.1 in
    let r = c.args.pending in
    let i = c.args.input in
    let now = c.args.now in
    let told : Part = replies r now (step (g.W.Doer.running c.args.doer.now).node i).answer (back_to (sender_of i) (step (g.W.Doer.running c.args.doer.now).node i).sends) in
    rw (p.1, p.2) (c.parts_stop.ensures.as_same _ (in_turn (accepts_in i) told) (responds r (Some i) now) c.args.doer.now c.accepts_in.new.doer (λ honest. refl) (c.parts_stop.ensures.in_first _ (accepts_in i) told c.args.doer.now c.accepts_in.new.doer c.in_err-accepted.ensures.breaks))

pub returns-in_err-replies-clause-breaks : goal.returns-in_err-replies-clause-breaks
returns-in_err-replies-clause-breaks g c =
    let p = err_from_is_err_and c.from_residual-in_err-replies.result c.from_residual-in_err-replies.ensures.1 in
    let r = c.args.pending in
    let i = c.args.input in
    let now = c.args.now in
    let told : Part = replies r now (step (g.W.Doer.running c.args.doer.now).node i).answer (back_to (sender_of i) (step (g.W.Doer.running c.args.doer.now).node i).sends) in
    let accepted = c.in_ok-accepted.accepted in
    let same = λ (honest : g.W.Doer.honest c.args.doer.now).
    ap (λ (x : Answer). replies r now x accepted.back (g.W.Doer.setting c.accepts_in.new.doer) (g.W.Doer.running c.accepts_in.new.doer)) (c.in_ok-accepted.ensures.answer honest)
    ∙ ap (λ (x : Option Message). replies r now (step (g.W.Doer.running c.args.doer.now).node i).answer x (g.W.Doer.setting c.accepts_in.new.doer) (g.W.Doer.running c.accepts_in.new.doer)) (c.in_ok-accepted.ensures.back honest) in
    rw (p.1, p.2) (c.parts_stop.ensures.as_same _ (in_turn (accepts_in i) told) (responds r (Some i) now) c.args.doer.now c.replies.new.self (λ honest. refl) (c.parts_stop.ensures.follows _ (accepts_in i) told (replies r now c.in_ok-accepted.accepted.answer c.in_ok-accepted.accepted.back) c.args.doer.now c.accepts_in.new.doer c.replies.new.self c.in_ok-accepted.ensures.did same c.in_err-replies.ensures.breaks))
