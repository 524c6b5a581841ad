use Rattle.std.proofs.Common.{arith}
use Rattle.oc_replay.proofs.Running.{as_found, as_read, event_at, found, goes_on, next_given}
use Rattle.oc_replay.proofs.playing.play.Goals as goal

-- the event is within its ranges, and leaves the clocks their time
pub give_at-requires-clause-event : goal.give_at-requires-clause-event
give_at-requires-clause-event g c = λ e is.
    let stage = g.T.Stage in
    (next_given (stage.world c.args.stage.now) c.args.events.now c.requires (stage.world c.loop-place.stage) e c.loop-place.place (omega (arith, c.loop-place-test.true, c.len-place-end.ensures)) (as_found c.args.events.now c.loop-place.place e is) c.loop-place.invariant.way).event

pub give_at-requires-clause-time : goal.give_at-requires-clause-time
give_at-requires-clause-time g c = λ e is.
    let stage = g.T.Stage in
    (next_given (stage.world c.args.stage.now) c.args.events.now c.requires (stage.world c.loop-place.stage) e c.loop-place.place (omega (arith, c.loop-place-test.true, c.len-place-end.ensures)) (as_found c.args.events.now c.loop-place.place e is) c.loop-place.invariant.way).time

-- fewer than 2^63 messages were sent, and the first has the number 1
pub overflow_add-sent : goal.overflow_add-sent
overflow_add-sent g c =
    let events = c.args.events.now in
    let place = c.loop-place.place in
    let said = c.in_ok-told.ensures.said (event_at events place) (found events place (omega (arith, c.loop-place-test.true, c.len-place-end.ensures))) in
    omega (arith, said.first, said.count, said.few)

pub overflow_sub-sent : goal.overflow_sub-sent
overflow_sub-sent g c =
    let events = c.args.events.now in
    let place = c.loop-place.place in
    let said = c.in_ok-told.ensures.said (event_at events place) (found events place (omega (arith, c.loop-place-test.true, c.len-place-end.ensures))) in
    omega (arith, said.first)

-- the run is one event on
pub loop-place-preserved : goal.loop-place-preserved
loop-place-preserved g c =
    let stage = g.T.Stage in
    let events = c.args.events.now in
    let place = c.loop-place.place in
    let event = event_at events place in
    let here = found events place (omega (arith, c.loop-place-test.true, c.len-place-end.ensures)) in
    let said = c.in_ok-told.ensures.said event here in
    record {
      way = goes_on (stage.world c.args.stage.now) events c.requires (stage.world c.loop-place.stage) (stage.world c.give_at.new.stage) event place (omega (arith, c.loop-place-test.true, c.len-place-end.ensures)) (as_read events place (omega (arith, c.loop-place-test.true, c.len-place-end.ensures))) (c.in_ok-told.ensures.world event here) c.loop-place.invariant.way;
      sent = omega (arith, said.first, said.count);
    }
