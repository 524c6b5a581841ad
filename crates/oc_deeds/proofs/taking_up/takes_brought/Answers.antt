use Rattle.std.proofs.Common.{Option, ap}
use Rattle.oc_model.specs.declared.input.Input.{Input}
use Rattle.oc_deeds.specs.Telling.{takes_in}
use Rattle.oc_deeds.specs.Turns.{takes_brought}
use Rattle.oc_deeds.proofs.Results.{done_then, err_then}
use Rattle.oc_deeds.proofs.taking_up.takes_brought.Goals as goal

pub returns-in-Some-clause-did : goal.returns-in-Some-clause-did
returns-in-Some-clause-did g c =
    let s = c.args.doer.now in
    done_then c.takes_in.result (λ does. c.parts_go_on.ensures.as_same (takes_in c.in-Some.input) (takes_brought c.args.input) s c.takes_in.new.doer (λ honest. ap (λ (o : Option Input). takes_brought o (g.W.Doer.setting s) (g.W.Doer.running s)) c.in-Some.is) does) c.takes_in.ensures.did

pub returns-in-Some-clause-breaks : goal.returns-in-Some-clause-breaks
returns-in-Some-clause-breaks g c =
    let s = c.args.doer.now in
    err_then c.takes_in.result (λ end stops. c.parts_stop.ensures.as_same end (takes_in c.in-Some.input) (takes_brought c.args.input) s c.takes_in.new.doer (λ honest. ap (λ (o : Option Input). takes_brought o (g.W.Doer.setting s) (g.W.Doer.running s)) c.in-Some.is) stops) c.takes_in.ensures.breaks

pub returns-in-None-clause-did : goal.returns-in-None-clause-did
returns-in-None-clause-did g c =
    let s = c.args.doer.now in
    c.parts_go_on.ensures.nothing_done (takes_brought c.args.input) s c.requires.serving (λ honest. ap (λ (o : Option Input). takes_brought o (g.W.Doer.setting s) (g.W.Doer.running s)) c.in-None.is)
