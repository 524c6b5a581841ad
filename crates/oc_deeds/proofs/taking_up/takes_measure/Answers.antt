use Rattle.std.proofs.Common.{List, ℕ, ap, sym, ◌∙◌}
use Rattle.oc_model.specs.Measures.{reading_of}
use Rattle.oc_model.specs.Node.{Control}
use Rattle.oc_model.specs.declared.input.Input.TheVariants as inputs
use Rattle.oc_model.specs.declared.reading.Reading.{Reading}
use Rattle.oc_deeds.specs.Telling.{takes_ahead}
use Rattle.oc_deeds.specs.Turns.{takes_measure}
use Rattle.oc_deeds.proofs.Results.{done_then, err_then}
use Rattle.oc_deeds.proofs.taking_up.takes_measure.Goals as goal

pub returns-clause-did : goal.returns-clause-did
returns-clause-did g c =
    let s = c.args.doer.now in
    let hops = c.get-rate.ensures.hops ∙ ap (λ (ms : List Reading). (reading_of ms c.args.peer).hops) (c.measures.ensures ∙ ap (λ (n : Control). n.kept.measures) c.node.ensures) in
    done_then c.takes_ahead.result (λ does. c.parts_go_on.ensures.as_same (takes_ahead (inputs.Measured c.args.peer c.args.rate c.get-rate.result.1)) (takes_measure c.args.peer c.args.rate) s c.takes_ahead.new.doer
    (λ honest. ap (λ (h : ℕ). takes_ahead (inputs.Measured c.args.peer c.args.rate h) (g.W.Doer.setting s) (g.W.Doer.running s)) (sym hops)) does) c.takes_ahead.ensures.did

pub returns-clause-breaks : goal.returns-clause-breaks
returns-clause-breaks g c =
    let s = c.args.doer.now in
    let hops = c.get-rate.ensures.hops ∙ ap (λ (ms : List Reading). (reading_of ms c.args.peer).hops) (c.measures.ensures ∙ ap (λ (n : Control). n.kept.measures) c.node.ensures) in
    err_then c.takes_ahead.result (λ end stops. c.parts_stop.ensures.as_same end (takes_ahead (inputs.Measured c.args.peer c.args.rate c.get-rate.result.1)) (takes_measure c.args.peer c.args.rate) s c.takes_ahead.new.doer (λ honest. ap (λ (h : ℕ). takes_ahead (inputs.Measured c.args.peer c.args.rate h) (g.W.Doer.setting s) (g.W.Doer.running s)) (sym hops)) stops) c.takes_ahead.ensures.breaks
