use Rattle.std.proofs.Common.{Bool, ℕ, ap, sym, ◌∙◌}
use Rattle.oc_model.specs.declared.input.Input.TheVariants as inputs
use Rattle.oc_deeds.specs.Telling.{takes_in}
use Rattle.oc_deeds.specs.Turns.{ticks_if}
use Rattle.oc_deeds.proofs.Results.{done_then, err_then}
use Rattle.oc_deeds.proofs.taking_up.ticks_if.Goals as goal

pub returns-then-passed-clause-did : goal.returns-then-passed-clause-did
returns-then-passed-clause-did g c =
    let s = c.args.doer.now in
    done_then c.takes_in.result (λ does. c.parts_go_on.ensures.as_same (takes_in (inputs.Tick c.min.result)) (ticks_if c.args.passed c.args.seconds) s c.takes_in.new.doer (λ honest. ap (λ (b : Bool). ticks_if b c.args.seconds (g.W.Doer.setting s) (g.W.Doer.running s)) c.if-passed.true ∙ ap (λ (n : ℕ). takes_in (inputs.Tick n) (g.W.Doer.setting s) (g.W.Doer.running s)) (sym c.min.ensures)) does) c.takes_in.ensures.did

pub returns-then-passed-clause-breaks : goal.returns-then-passed-clause-breaks
returns-then-passed-clause-breaks g c =
    let s = c.args.doer.now in
    err_then c.takes_in.result (λ end stops. c.parts_stop.ensures.as_same end (takes_in (inputs.Tick c.min.result)) (ticks_if c.args.passed c.args.seconds) s c.takes_in.new.doer (λ honest. ap (λ (b : Bool). ticks_if b c.args.seconds (g.W.Doer.setting s) (g.W.Doer.running s)) c.if-passed.true ∙ ap (λ (n : ℕ). takes_in (inputs.Tick n) (g.W.Doer.setting s) (g.W.Doer.running s)) (sym c.min.ensures)) stops) c.takes_in.ensures.breaks

pub returns-else-passed-clause-did : goal.returns-else-passed-clause-did
returns-else-passed-clause-did g c =
    let s = c.args.doer.now in
    c.parts_go_on.ensures.nothing_done (ticks_if c.args.passed c.args.seconds) s c.requires (λ honest. ap (λ (b : Bool). ticks_if b c.args.seconds (g.W.Doer.setting s) (g.W.Doer.running s)) c.if-passed.false)
