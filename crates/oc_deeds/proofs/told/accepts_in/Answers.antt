use Rattle.std.proofs.Common.{ap, refl, ◌∙◌}
use Rattle.std.proofs.lemmas.Result.{err_from_is_err_and}
use Rattle.oc_model.specs.Step.{step}
use Rattle.oc_deeds.specs.Deeds.{Running, back_to, sender_of}
use Rattle.oc_deeds.specs.Telling.{says_ahead, accepts_told}
use Rattle.oc_deeds.proofs.Doing.{input_stays}
use Rattle.oc_deeds.proofs.Results.{done_then, err_then, ok_then}
use Rattle.oc_deeds.proofs.told.accepts_in.Goals as goal

pub accepts_told-requires-clause-serving : goal.accepts_told-requires-clause-serving
accepts_told-requires-clause-serving g c =
    c.parts_go_on.ensures.stays_serving (says_ahead c.args.input) c.args.doer.now c.says_ahead.new.self c.in_ok-says_ahead.ensures.did c.requires.serving

pub accepts_told-requires-clause-input : goal.accepts_told-requires-clause-input
accepts_told-requires-clause-input g c =
    input_stays (g.W.Doer.running c.args.doer.now).node.control.nodes (g.W.Doer.running c.args.doer.now).node.control.me (g.W.Doer.running c.says_ahead.new.self).node.control.nodes (g.W.Doer.running c.says_ahead.new.self).node.control.me c.args.input (c.parts_go_on.ensures.same_nodes (says_ahead c.args.input) c.args.doer.now c.says_ahead.new.self c.in_ok-says_ahead.ensures.did) (c.parts_go_on.ensures.same_me (says_ahead c.args.input) c.args.doer.now c.says_ahead.new.self c.in_ok-says_ahead.ensures.did) c.requires.input

pub returns-clause-did : goal.returns-clause-did
returns-clause-did g c =
    done_then c.accepts_told.result (λ does. c.parts_go_on.ensures.follows (says_ahead c.args.input) (accepts_told c.args.input) (accepts_told c.args.input) c.args.doer.now c.says_ahead.new.self c.accepts_told.new.doer c.in_ok-says_ahead.ensures.did (λ honest. refl) does) c.accepts_told.ensures.did

pub returns-clause-answer : goal.returns-clause-answer
returns-clause-answer g c =
    ok_then c.accepts_told.result (λ accepted is honest. is (c.parts_go_on.ensures.stays_honest (says_ahead c.args.input) c.args.doer.now c.says_ahead.new.self c.in_ok-says_ahead.ensures.did honest) ∙ ap (λ (r : Running). (step r.node c.args.input).answer) (c.parts_go_on.ensures.leaves (says_ahead c.args.input) c.args.doer.now c.says_ahead.new.self c.in_ok-says_ahead.ensures.did honest)) c.accepts_told.ensures.answer

pub returns-clause-back : goal.returns-clause-back
returns-clause-back g c =
    ok_then c.accepts_told.result (λ accepted is honest. is (c.parts_go_on.ensures.stays_honest (says_ahead c.args.input) c.args.doer.now c.says_ahead.new.self c.in_ok-says_ahead.ensures.did honest) ∙ ap (λ (r : Running). back_to (sender_of c.args.input) (step r.node c.args.input).sends) (c.parts_go_on.ensures.leaves (says_ahead c.args.input) c.args.doer.now c.says_ahead.new.self c.in_ok-says_ahead.ensures.did honest)) c.accepts_told.ensures.back

pub returns-clause-breaks : goal.returns-clause-breaks
returns-clause-breaks g c =
    err_then c.accepts_told.result (λ end stops. c.parts_stop.ensures.follows end (says_ahead c.args.input) (accepts_told c.args.input) (accepts_told c.args.input) c.args.doer.now c.says_ahead.new.self c.accepts_told.new.doer c.in_ok-says_ahead.ensures.did (λ honest. refl) stops) c.accepts_told.ensures.breaks

pub returns-in_err-says_ahead-clause-breaks : goal.returns-in_err-says_ahead-clause-breaks
returns-in_err-says_ahead-clause-breaks g c =
    let p = err_from_is_err_and c.from_residual.result c.from_residual.ensures.1 in
    rw (p.1, p.2) (c.parts_stop.ensures.in_first _ (says_ahead c.args.input) (accepts_told c.args.input) c.args.doer.now c.says_ahead.new.self c.in_err-says_ahead.ensures.breaks)
