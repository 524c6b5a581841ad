-- One more event.
use Rattle.std.proofs.Common.{◌≡◌, suc, ◌+◌, ◌-◌, [], ◌∷◌, ◌++◌, ap, ◌∙◌, arith}
use Rattle.oc_schedule.specs.Events.{event_of}
use Rattle.oc_schedule.specs.Generator.{events_from}
use Rattle.oc_schedule.proofs.Draws.{one_event_more}
use Rattle.oc_schedule.proofs.generating.put_drawn.Goals as goal

pub loop-number-preserved : goal.loop-number-preserved
loop-number-preserved c =
    let i = c.loop-number.number in
    let s = c.loop-number.draws.state in
    let k = c.args.last + 1 - (i + 1) in
    let more : c.args.last + 1 - i ≡ suc k = omega (arith, c.loop-number-test.true) in
    ap (λ items. items ++ events_from c.event.new.self.state c.args.nodes (i + 1) 0 k) c.in_ok-push.ensures
    ∙ ap (λ state. (c.loop-number.events ++ event_of c.in_ok-event.event ∷ []) ++ events_from state c.args.nodes (i + 1) 0 k) c.in_ok-event.ensures.state
    ∙ one_event_more c.loop-number.events s c.args.nodes i (c.args.last + 1 - i) k (event_of c.in_ok-event.event) more c.in_ok-event.ensures.event
    ∙ c.loop-number.invariant
