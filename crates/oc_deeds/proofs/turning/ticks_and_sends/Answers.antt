use Rattle.std.proofs.Common.{refl}
use Rattle.std.proofs.lemmas.Result.{err_from_is_err_and}
use Rattle.oc_deeds.specs.Sends.{sends}
use Rattle.oc_deeds.specs.Turns.{ticks}
use Rattle.oc_deeds.specs.declared.choosing.TheConstants.{MAX_DIALS}
use Rattle.oc_deeds.proofs.Results.{done_then, err_then}
use Rattle.oc_deeds.proofs.turning.ticks_and_sends.Goals as goal

pub sends-requires : goal.sends-requires
sends-requires g c =
    let did = c.in_ok-ticks.ensures.did in
    c.parts_go_on.ensures.stays_serving (ticks c.args.pace.now c.args.now did.0) c.args.doer.now c.ticks.new.doer did.1 c.requires

pub returns-clause-did : goal.returns-clause-did
returns-clause-did g c =
    let s = c.args.doer.now in
    let did = c.in_ok-ticks.ensures.did in
    done_then c.sends.result (λ does. (did.0, c.parts_go_on.ensures.follows (ticks c.args.pace.now c.args.now did.0) (sends MAX_DIALS) (sends MAX_DIALS) s c.ticks.new.doer c.sends.new.doer did.1 (λ honest. refl) does, did.2)) c.sends.ensures.did

pub returns-clause-breaks : goal.returns-clause-breaks
returns-clause-breaks g c =
    let s = c.args.doer.now in
    let did = c.in_ok-ticks.ensures.did in
    err_then c.sends.result (λ end stops. (did.0, c.parts_stop.ensures.follows end (ticks c.args.pace.now c.args.now did.0) (sends MAX_DIALS) (sends MAX_DIALS) s c.ticks.new.doer c.sends.new.doer did.1 (λ honest. refl) stops)) c.sends.ensures.breaks

pub returns-in_err-ticks-clause-breaks : goal.returns-in_err-ticks-clause-breaks
returns-in_err-ticks-clause-breaks g c =
    let p = err_from_is_err_and c.from_residual.result c.from_residual.ensures.1 in
    let stops = c.in_err-ticks.ensures.breaks in
    rw (p.1, p.2) (stops.0, c.parts_stop.ensures.in_first c.in_err-ticks.field-0.0 (ticks c.args.pace.now c.args.now stops.0) (sends MAX_DIALS) c.args.doer.now c.ticks.new.doer stops.1)
