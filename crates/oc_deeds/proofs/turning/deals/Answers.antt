use Rattle.std.proofs.Common.{Bool, ap, refl, ◌∙◌}
use Rattle.std.proofs.lemmas.Result.{err_from_is_err_and}
use Rattle.oc_deeds.specs.Hurries.{came_hurries}
use Rattle.oc_deeds.specs.Parts.{in_turn}
use Rattle.oc_deeds.specs.Turns.{deals, happens, paced, quickened, ticks_and_sends}
use Rattle.oc_deeds.specs.declared.pace.Pace.{Pace}
use Rattle.oc_deeds.proofs.Results.{done_then, err_then}
use Rattle.oc_deeds.proofs.turning.deals.Goals as goal

pub ticks_and_sends-requires : goal.ticks_and_sends-requires
ticks_and_sends-requires g c =
    let h = c.in_ok-hurries.ensures.did in
    c.parts_go_on.ensures.stays_serving (happens c.args.probing.now c.args.came c.args.now h.0 h.1) c.args.doer.now c.happens.new.doer h.3 c.requires.serving

pub returns-clause-did : goal.returns-clause-did
returns-clause-did g c =
    let s = c.args.doer.now in
    let b = c.happens.new.doer in
    let end = c.ticks_and_sends.new.doer in
    let pace = c.args.pace.now in
    let probing = c.args.probing.now in
    let h = c.in_ok-hurries.ensures.did in
    let soon = came_hurries c.args.came (g.W.Doer.running s).node in
    let is = c.in_ok-hurries.ensures.hurries in
    done_then c.ticks_and_sends.result (λ ticks. (
      h.0,
      h.1,
      ticks.0,
      h.2,
      c.parts_go_on.ensures.as_same (in_turn (happens probing c.args.came c.args.now h.0 h.1) (ticks_and_sends (quickened soon pace) c.args.now ticks.0)) (deals pace probing c.args.came c.args.now h.0 h.1 ticks.0) s end (λ honest. refl)
          (c.parts_go_on.ensures.follows (happens probing c.args.came c.args.now h.0 h.1) (ticks_and_sends (quickened soon pace) c.args.now ticks.0) (ticks_and_sends c.quickened.result c.args.now ticks.0) s b end h.3
          (λ honest. ap (λ (p : Pace). ticks_and_sends p c.args.now ticks.0 (g.W.Doer.setting b) (g.W.Doer.running b)) (c.quickened.ensures ∙ ap (λ (x : Bool). quickened x pace) (is honest))) ticks.1),
      λ honest. ticks.2 ∙ ap (λ (p : Pace). paced p c.args.now ticks.0) (c.quickened.ensures ∙ ap (λ (x : Bool). quickened x pace) (is honest)),
    )) c.ticks_and_sends.ensures.did

pub returns-clause-breaks : goal.returns-clause-breaks
returns-clause-breaks g c =
    let s = c.args.doer.now in
    let b = c.happens.new.doer in
    let new = c.ticks_and_sends.new.doer in
    let pace = c.args.pace.now in
    let probing = c.args.probing.now in
    let h = c.in_ok-hurries.ensures.did in
    let soon = came_hurries c.args.came (g.W.Doer.running s).node in
    let is = c.in_ok-hurries.ensures.hurries in
    err_then c.ticks_and_sends.result (λ end stops. (
      h.0,
      h.1,
      stops.0,
      h.2,
      c.parts_stop.ensures.as_same end (in_turn (happens probing c.args.came c.args.now h.0 h.1) (ticks_and_sends (quickened soon pace) c.args.now stops.0)) (deals pace probing c.args.came c.args.now h.0 h.1 stops.0) s new (λ honest. refl)
          (c.parts_stop.ensures.follows end (happens probing c.args.came c.args.now h.0 h.1) (ticks_and_sends (quickened soon pace) c.args.now stops.0) (ticks_and_sends c.quickened.result c.args.now stops.0) s b new h.3
          (λ honest. ap (λ (p : Pace). ticks_and_sends p c.args.now stops.0 (g.W.Doer.setting b) (g.W.Doer.running b)) (c.quickened.ensures ∙ ap (λ (x : Bool). quickened x pace) (is honest))) stops.1),
    )) c.ticks_and_sends.ensures.breaks

pub returns-in_err-hurries-clause-breaks : goal.returns-in_err-hurries-clause-breaks
returns-in_err-hurries-clause-breaks g c =
    let p = err_from_is_err_and c.from_residual.result c.from_residual.ensures.1 in
    let s = c.args.doer.now in
    let pace = c.args.pace.now in
    let probing = c.args.probing.now in
    let stops = c.in_err-hurries.ensures.breaks in
    let soon = came_hurries c.args.came (g.W.Doer.running s).node in
    let first = happens probing c.args.came c.args.now stops.0 stops.1 in
    let rest = ticks_and_sends (quickened soon pace) c.args.now 0 in
    rw (p.1, p.2) (
      stops.0,
      stops.1,
      0,
      stops.2,
      c.parts_stop.ensures.as_same c.in_err-hurries.field-0.0 (in_turn first rest) (deals pace probing c.args.came c.args.now stops.0 stops.1 0) s c.happens.new.doer (λ honest. refl)
          (c.parts_stop.ensures.in_first c.in_err-hurries.field-0.0 first rest s c.happens.new.doer stops.3),
    )
