use Rattle.std.proofs.Common.{◌∙◌, arith}
use Rattle.oc_schedule.proofs.Listed.{line_put}
use Rattle.oc_schedule.proofs.printing.put_events.Goals as goal

pub loop-place-preserved : goal.loop-place-preserved
loop-place-preserved c =
    line_put c.loop-place.out.items c.put_event_at.new.out.items c.args.events.now c.loop-place.place (omega (arith, c.loop-place-test.true, c.len-place-end.ensures)) c.in_ok-put_event_at.ensures
    ∙ c.loop-place.invariant
