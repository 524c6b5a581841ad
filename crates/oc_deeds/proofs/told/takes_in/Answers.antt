use Rattle.std.proofs.Common.{refl}
use Rattle.std.proofs.lemmas.Result.{err_from_is_err_and}
use Rattle.oc_deeds.specs.Telling.{says_ahead, takes_told}
use Rattle.oc_deeds.proofs.Doing.{input_stays}
use Rattle.oc_deeds.proofs.Results.{done_then, err_then}
use Rattle.oc_deeds.proofs.told.takes_in.Goals as goal

pub takes_told-requires-clause-serving : goal.takes_told-requires-clause-serving
takes_told-requires-clause-serving g c =
    c.parts_go_on.ensures.stays_serving (says_ahead c.args.input) c.args.doer.now c.says_ahead.new.self c.in_ok-says_ahead.ensures.did c.requires.serving

pub takes_told-requires-clause-input : goal.takes_told-requires-clause-input
takes_told-requires-clause-input g c =
    input_stays (g.W.Doer.running c.args.doer.now).node.control.nodes (g.W.Doer.running c.args.doer.now).node.control.me (g.W.Doer.running c.says_ahead.new.self).node.control.nodes (g.W.Doer.running c.says_ahead.new.self).node.control.me c.args.input (c.parts_go_on.ensures.same_nodes (says_ahead c.args.input) c.args.doer.now c.says_ahead.new.self c.in_ok-says_ahead.ensures.did) (c.parts_go_on.ensures.same_me (says_ahead c.args.input) c.args.doer.now c.says_ahead.new.self c.in_ok-says_ahead.ensures.did) c.requires.input

pub returns-clause-did : goal.returns-clause-did
returns-clause-did g c =
    done_then c.takes_told.result (λ does. c.parts_go_on.ensures.follows (says_ahead c.args.input) (takes_told c.args.input) (takes_told c.args.input) c.args.doer.now c.says_ahead.new.self c.takes_told.new.doer c.in_ok-says_ahead.ensures.did (λ honest. refl) does) c.takes_told.ensures.did

pub returns-clause-breaks : goal.returns-clause-breaks
returns-clause-breaks g c =
    err_then c.takes_told.result (λ end stops. c.parts_stop.ensures.follows end (says_ahead c.args.input) (takes_told c.args.input) (takes_told c.args.input) c.args.doer.now c.says_ahead.new.self c.takes_told.new.doer c.in_ok-says_ahead.ensures.did (λ honest. refl) stops) c.takes_told.ensures.breaks

pub returns-in_err-says_ahead-clause-breaks : goal.returns-in_err-says_ahead-clause-breaks
returns-in_err-says_ahead-clause-breaks g c =
    let p = err_from_is_err_and c.from_residual.result c.from_residual.ensures.1 in
    rw (p.1, p.2) (c.parts_stop.ensures.in_first _ (says_ahead c.args.input) (takes_told c.args.input) c.args.doer.now c.says_ahead.new.self c.in_err-says_ahead.ensures.breaks)
