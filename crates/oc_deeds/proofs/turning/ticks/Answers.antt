use Rattle.std.proofs.Common.{◌∙◌}
use Rattle.std.proofs.lemmas.Result.{err_from_is_err_and}
use Rattle.oc_deeds.specs.Turns.{ticked, ticks}
use Rattle.oc_deeds.proofs.TickDue.{a_tick, a_tick_paced, no_tick, no_tick_paced}
use Rattle.oc_deeds.proofs.turning.ticks.Goals as goal

pub returns-then-wait-ne0-clause-did : goal.returns-then-wait-ne0-clause-did
returns-then-wait-ne0-clause-did g c =
    let s = c.args.doer.now in (
      0,
      c.parts_go_on.ensures.nothing_done (ticks c.args.pace.now c.args.now 0) s c.requires
          (λ honest. no_tick c.args.pace.now c.args.now c.wait.result 0 (g.W.Doer.setting s) (g.W.Doer.running s) c.wait.ensures c.if-wait-ne0.true),
      no_tick_paced c.args.pace.now c.args.now c.wait.result 0 c.wait.ensures c.if-wait-ne0.true,
    )

pub returns-clause-did : goal.returns-clause-did
returns-clause-did g c =
    let s = c.args.doer.now in
    let seconds = c.in_ok-seconds.seconds in (
      seconds,
      c.parts_go_on.ensures.as_same (ticked c.args.pace.now.second seconds) (ticks c.args.pace.now c.args.now seconds) s c.ticked.new.doer
          (λ honest. a_tick c.args.pace.now c.args.now c.wait.result seconds (g.W.Doer.setting s) (g.W.Doer.running s) c.wait.ensures c.if-wait-ne0.false) c.in_ok-seconds.ensures.did,
      c.look.ensures ∙ a_tick_paced c.args.pace.now c.args.now c.wait.result seconds c.wait.ensures c.if-wait-ne0.false,
    )

pub returns-in_err-seconds-clause-breaks : goal.returns-in_err-seconds-clause-breaks
returns-in_err-seconds-clause-breaks g c =
    let p = err_from_is_err_and c.from_residual.result c.from_residual.ensures.1 in
    let s = c.args.doer.now in
    let stops = c.in_err-seconds.ensures.breaks in
    rw (p.1, p.2) (
      stops.0,
      c.parts_stop.ensures.as_same c.in_err-seconds.field-0.0 (ticked c.args.pace.now.second stops.0) (ticks c.args.pace.now c.args.now stops.0) s c.ticked.new.doer
          (λ honest. a_tick c.args.pace.now c.args.now c.wait.result stops.0 (g.W.Doer.setting s) (g.W.Doer.running s) c.wait.ensures c.if-wait-ne0.false) stops.1,
    )
