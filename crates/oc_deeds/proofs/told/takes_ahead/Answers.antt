use Rattle.std.proofs.Common.{refl}
use Rattle.std.proofs.lemmas.Result.{err_from_is_err_and}
use Rattle.oc_deeds.specs.Deeds.{Takes}
use Rattle.oc_deeds.specs.Parts.{in_turn, one}
use Rattle.oc_deeds.specs.Telling.{says_ahead, takes_ahead}
use Rattle.oc_deeds.proofs.Doing.{input_stays}
use Rattle.oc_deeds.proofs.told.takes_ahead.Goals as goal

pub takes-requires-clause-serving : goal.takes-requires-clause-serving
takes-requires-clause-serving g c =
    c.parts_go_on.ensures.stays_serving (says_ahead c.args.input) c.args.doer.now c.says_ahead.new.self c.in_ok-says_ahead.ensures.did c.requires.serving

pub takes-requires-clause-input : goal.takes-requires-clause-input
takes-requires-clause-input g c =
    input_stays (g.W.Doer.running c.args.doer.now).node.control.nodes (g.W.Doer.running c.args.doer.now).node.control.me (g.W.Doer.running c.says_ahead.new.self).node.control.nodes (g.W.Doer.running c.says_ahead.new.self).node.control.me c.args.input (c.parts_go_on.ensures.same_nodes (says_ahead c.args.input) c.args.doer.now c.says_ahead.new.self c.in_ok-says_ahead.ensures.did) (c.parts_go_on.ensures.same_me (says_ahead c.args.input) c.args.doer.now c.says_ahead.new.self c.in_ok-says_ahead.ensures.did) c.requires.input

pub returns-clause-did : goal.returns-clause-did
returns-clause-did g c =
    c.parts_go_on.ensures.as_same (in_turn (says_ahead c.args.input) (one (Takes c.args.input))) (takes_ahead c.args.input) c.args.doer.now c.takes.new.self (λ honest. refl) (c.parts_go_on.ensures.follows (says_ahead c.args.input) (one (Takes c.args.input)) (one (Takes c.args.input)) c.args.doer.now c.says_ahead.new.self c.takes.new.self c.in_ok-says_ahead.ensures.did (λ honest. refl) c.in_ok-_answer.ensures.did)

pub returns-in_err-_answer-clause-breaks : goal.returns-in_err-_answer-clause-breaks
returns-in_err-_answer-clause-breaks g c =
    let p = err_from_is_err_and c.from_residual-in_err-_answer.result c.from_residual-in_err-_answer.ensures.1 in
    rw (p.1, p.2) (c.parts_stop.ensures.as_same _ (in_turn (says_ahead c.args.input) (one (Takes c.args.input))) (takes_ahead c.args.input) c.args.doer.now c.takes.new.self (λ honest. refl) (c.parts_stop.ensures.follows _ (says_ahead c.args.input) (one (Takes c.args.input)) (one (Takes c.args.input)) c.args.doer.now c.says_ahead.new.self c.takes.new.self c.in_ok-says_ahead.ensures.did (λ honest. refl) c.in_err-_answer.ensures.breaks))

pub returns-in_err-says_ahead-clause-breaks : goal.returns-in_err-says_ahead-clause-breaks
returns-in_err-says_ahead-clause-breaks g c =
    let p = err_from_is_err_and c.from_residual.result c.from_residual.ensures.1 in
    rw (p.1, p.2) (c.parts_stop.ensures.as_same _ (in_turn (says_ahead c.args.input) (one (Takes c.args.input))) (takes_ahead c.args.input) c.args.doer.now c.says_ahead.new.self (λ honest. refl) (c.parts_stop.ensures.in_first _ (says_ahead c.args.input) (one (Takes c.args.input)) c.args.doer.now c.says_ahead.new.self c.in_err-says_ahead.ensures.breaks))
