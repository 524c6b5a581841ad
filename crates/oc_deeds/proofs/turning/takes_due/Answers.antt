use Rattle.std.proofs.Common.{refl, slice_get}
use Rattle.std.proofs.lemmas.Result.{err_from_is_err_and}
use Rattle.oc_deeds.specs.Asks.{takes_up}
use Rattle.oc_deeds.specs.Turns.{ticks_and_sends}
use Rattle.oc_deeds.proofs.Results.{done_then, err_then}
use Rattle.oc_deeds.proofs.turning.takes_due.Goals as goal

pub ticks_and_sends-requires : goal.ticks_and_sends-requires
ticks_and_sends-requires g c =
    let s = c.args.doer.now in
    c.parts_go_on.ensures.stays_serving (takes_up (slice_get (g.W.Doer.running s).works c.args.index) c.args.before) s c.takes_up.new.doer c.in_ok-takes_up.ensures.did c.requires

pub returns-clause-did : goal.returns-clause-did
returns-clause-did g c =
    let s = c.args.doer.now in
    let up = takes_up (slice_get (g.W.Doer.running s).works c.args.index) c.args.before in
    done_then c.ticks_and_sends.result (λ ticks. (
      ticks.0,
      c.parts_go_on.ensures.follows up (ticks_and_sends c.args.pace.now c.args.before ticks.0) (ticks_and_sends c.args.pace.now c.args.before ticks.0) s c.takes_up.new.doer c.ticks_and_sends.new.doer c.in_ok-takes_up.ensures.did (λ honest. refl) ticks.1,
      ticks.2,
    )) c.ticks_and_sends.ensures.did

pub returns-clause-breaks : goal.returns-clause-breaks
returns-clause-breaks g c =
    let s = c.args.doer.now in
    let up = takes_up (slice_get (g.W.Doer.running s).works c.args.index) c.args.before in
    err_then c.ticks_and_sends.result (λ end stops. (
      stops.0,
      c.parts_stop.ensures.follows end up (ticks_and_sends c.args.pace.now c.args.before stops.0) (ticks_and_sends c.args.pace.now c.args.before stops.0) s c.takes_up.new.doer c.ticks_and_sends.new.doer c.in_ok-takes_up.ensures.did (λ honest. refl) stops.1,
    )) c.ticks_and_sends.ensures.breaks

pub returns-in_err-takes_up-clause-breaks : goal.returns-in_err-takes_up-clause-breaks
returns-in_err-takes_up-clause-breaks g c =
    let p = err_from_is_err_and c.from_residual.result c.from_residual.ensures.1 in
    let s = c.args.doer.now in
    let up = takes_up (slice_get (g.W.Doer.running s).works c.args.index) c.args.before in
    rw (p.1, p.2) (0, c.parts_stop.ensures.in_first c.in_err-takes_up.field-0.0 up (ticks_and_sends c.args.pace.now c.args.before 0) s c.takes_up.new.doer c.in_err-takes_up.ensures.breaks)
