use Rattle.std.proofs.Common.{◌≡◌, refl, sym, ap, ◌∙◌, inl, inr, arith}
use Rattle.std.proofs.lemmas.Result.{err_from_is_err_and}
use Rattle.oc_io.proofs.Counts.{Rose-after}
use Rattle.oc_client.specs.Jobs.{goal_of}
use Rattle.oc_client.specs.declared.effort.Next.TheVariants.{Ended}
use Rattle.oc_client.specs.declared.put_end.PutEnd.TheVariants as ends
use Rattle.oc_client.proofs.Led.{led_none, led_turn, link_end, again_less}
use Rattle.oc_client.proofs.settling.settle.Goals as goal

pub turns-init : goal.turns-init
turns-init g c = record {
  led = led_none (goal_of c.args.job.now) c.args.load.now c.args.start (g.L.Dialler.story c.args.link.now);
  count = omega arith;
}

pub turns-preserved : goal.turns-preserved
turns-preserved g c = record {
  led = led_turn (goal_of c.args.job.now) c.args.load.now c.args.start c.turns.effort (g.L.Dialler.story c.args.link.now) (g.L.Dialler.story c.turns.link) (g.L.Dialler.story c.exchange-answer.new.link) c.address.result.now c.deref.result.now c.asks-asks.result c.exchange-answer.result _ c.turns.invariant.led c.exchange-answer.ensures.dialled c.address.ensures (c.deref.ensures.value ∙ c.in_ok-request.ensures) c.asks-asks.ensures (sym c.in-Again.is ∙ c.react.ensures);
  count = omega (arith, c.turns.invariant.count, c.exchange-answer.ensures.count);
}

pub turns-smaller : goal.turns-smaller
turns-smaller g c = again_less c.turns.effort c.in-Again.further c.exchange-answer.result (sym c.react.ensures ∙ c.in-Again.is)

pub returns-in_err-request-clause-stopped : goal.returns-in_err-request-clause-stopped
returns-in_err-request-clause-stopped g c =
    let p = err_from_is_err_and c.from_residual.result c.from_residual.ensures.1 in
    rw (p.1, p.2) (inr (refl, (c.turns.effort, c.turns.invariant.led)))

pub returns-in_err-request-clause-count : goal.returns-in_err-request-clause-count
returns-in_err-request-clause-count g c = c.turns.invariant.count

pub returns-in-Settled-clause-settled : goal.returns-in-Settled-clause-settled
returns-in-Settled-clause-settled g c =
    led_turn (goal_of c.args.job.now) c.args.load.now c.args.start c.turns.effort (g.L.Dialler.story c.args.link.now) (g.L.Dialler.story c.turns.link) (g.L.Dialler.story c.exchange-answer.new.link) c.address.result.now c.deref.result.now c.asks-asks.result c.exchange-answer.result _ c.turns.invariant.led c.exchange-answer.ensures.dialled c.address.ensures (c.deref.ensures.value ∙ c.in_ok-request.ensures) c.asks-asks.ensures (sym c.in-Settled.is ∙ c.react.ensures)

pub returns-in-Settled-clause-count : goal.returns-in-Settled-clause-count
returns-in-Settled-clause-count g c = omega (arith, c.turns.invariant.count, c.exchange-answer.ensures.count)

pub returns-in-Ended-clause-stopped : goal.returns-in-Ended-clause-stopped
returns-in-Ended-clause-stopped g c =
    inl (led_turn (goal_of c.args.job.now) c.args.load.now c.args.start c.turns.effort (g.L.Dialler.story c.args.link.now) (g.L.Dialler.story c.turns.link) (g.L.Dialler.story c.exchange-answer.new.link) c.address.result.now c.deref.result.now c.asks-asks.result c.exchange-answer.result _ c.turns.invariant.led c.exchange-answer.ensures.dialled c.address.ensures (c.deref.ensures.value ∙ c.in_ok-request.ensures) c.asks-asks.ensures (sym c.in-Ended.is ∙ c.react.ensures))

pub returns-in-Ended-clause-count : goal.returns-in-Ended-clause-count
returns-in-Ended-clause-count g c = omega (arith, c.turns.invariant.count, c.exchange-answer.ensures.count)

pub returns-in-Ended-clause-cause : goal.returns-in-Ended-clause-cause
returns-in-Ended-clause-cause g c = λ e.
    let same : c.in-Ended.end ≡ ends.Link = cc in
    let failed = link_end c.turns.effort c.exchange-answer.result (sym c.react.ensures ∙ (c.in-Ended.is ∙ ap Ended same)) in
    Rose-after (g.L.Dialler.faults c.args.link.now) (g.L.Dialler.faults c.turns.link) (g.L.Dialler.faults c.exchange-answer.new.link) c.turns.invariant.count (c.exchange-answer.ensures.cause failed)
