use Rattle.std.proofs.Common.{◌+◌, ◌<◌, [], ◌++◌, length, drop, refl, sym, ap, subst, arith}
use Rattle.std.proofs.lemmas.Result.{on_ok_weaker}
use Rattle.oc_io.proofs.Counts.{Rose-after}
use Rattle.oc_replay.specs.Lines.{end_line}
use Rattle.oc_replay.specs.Pieces.{SomeFront}
use Rattle.oc_replay.specs.Report.{told_from, run_text}
use Rattle.oc_replay.proofs.Running.{as_found, as_read, event_at, found, begins, after-take, goes_on, next_given, whole_run}
use Rattle.oc_replay.proofs.Runs.{written-next, written-end}
use Rattle.oc_replay.proofs.Written.{written_none, passes, ends, stops, fails_on}
use Rattle.oc_replay.proofs.reporting.report.Goals as goal

-- nothing is gathered, and the run begins
pub loop-place-init : goal.loop-place-init
loop-place-init g c =
    let stage = g.T.Stage in
    let events = c.args.events.now in
    let opened = stage.world c.args.stage.now in
    record {
      written = written_none g.K.Sink.takes c.args.sink.now (g.met.K.Sink.takes_nothing c.args.sink.now) c.new-out.result.items c.new-out.ensures.items (run_text opened events);
      way = begins opened events c.requires;
      sent = sym (ap length c.requires.net);
      count = omega arith;
    }

-- the event is within its ranges, and leaves the clocks their time
pub report_event_at-requires-clause-event : goal.report_event_at-requires-clause-event
report_event_at-requires-clause-event g c = λ e is.
    let stage = g.T.Stage in
    (next_given (stage.world c.args.stage.now) c.args.events.now c.requires (stage.world c.loop-place.stage) e c.loop-place.place (omega (arith, c.loop-place-test.true, c.len-place-end.ensures)) (as_found c.args.events.now c.loop-place.place e is) c.loop-place.invariant.way).event

pub report_event_at-requires-clause-time : goal.report_event_at-requires-clause-time
report_event_at-requires-clause-time g c = λ e is.
    let stage = g.T.Stage in
    (next_given (stage.world c.args.stage.now) c.args.events.now c.requires (stage.world c.loop-place.stage) e c.loop-place.place (omega (arith, c.loop-place-test.true, c.len-place-end.ensures)) (as_found c.args.events.now c.loop-place.place e is) c.loop-place.invariant.way).time

-- one more event is gathered, and a prefix of the gathered bytes is passed on
pub loop-place-preserved : goal.loop-place-preserved
loop-place-preserved g c =
    let stage = g.T.Stage in
    let takes = g.K.Sink.takes in
    let events = c.args.events.now in
    let place = c.loop-place.place in
    let event = event_at events place in
    let within : place < length events = omega (arith, c.loop-place-test.true, c.len-place-end.ensures) in
    let here = found events place within in
    let opened = stage.world c.args.stage.now in
    let world = stage.world c.loop-place.stage in
    let next = stage.world c.report_event_at.new.stage in
    let text = run_text opened events in
    let written = written-next takes c.args.sink.now c.loop-place.sink c.loop-place.out.items c.report_event_at.new.out.items text place world next events event within (as_read events place within) (c.in_ok-sent.ensures.world event here) (c.in_ok-sent.ensures.text event here) c.loop-place.invariant.written in
    record {
      written = passes takes g.met.K.Sink.takes_then c.args.sink.now c.loop-place.sink c.pass_on.new.sink c.report_event_at.new.out.items c.pass_on.new.out.items (told_from (place + 1) next (drop (place + 1) events)) text c.in_ok-pass_on.ensures.passed written;
      way = goes_on opened events c.requires world next event place within (as_read events place within) (c.in_ok-sent.ensures.world event here) c.loop-place.invariant.way;
      sent = c.in_ok-sent.ensures.sent;
      count = omega (arith, c.in_ok-pass_on.ensures.count);
    }

-- a prefix was taken when memory ran out
pub returns-in_err-sent-clause-memory : goal.returns-in_err-sent-clause-memory
returns-in_err-sent-clause-memory g c = λ _. stops g.K.Sink.takes c.args.sink.now c.loop-place.sink c.loop-place.out.items _ _ c.loop-place.invariant.written

-- a prefix was taken when a call failed
pub returns-in_err-pass_on-clause-failed : goal.returns-in_err-pass_on-clause-failed
returns-in_err-pass_on-clause-failed g c = λ _.
    let stage = g.T.Stage in
    let takes = g.K.Sink.takes in
    let events = c.args.events.now in
    let place = c.loop-place.place in
    let event = event_at events place in
    let within : place < length events = omega (arith, c.loop-place-test.true, c.len-place-end.ensures) in
    let here = found events place within in
    let next = stage.world c.report_event_at.new.stage in
    let text = run_text (stage.world c.args.stage.now) events in
    let written = written-next takes c.args.sink.now c.loop-place.sink c.loop-place.out.items c.report_event_at.new.out.items text place (stage.world c.loop-place.stage) next events event within (as_read events place within) (c.in_ok-sent.ensures.world event here) (c.in_ok-sent.ensures.text event here) c.loop-place.invariant.written in
    fails_on takes g.K.Sink.fails g.met.K.Sink.takes_fails c.args.sink.now c.loop-place.sink c.pass_on.new.sink c.report_event_at.new.out.items (told_from (place + 1) next (drop (place + 1) events)) text written c.in_err-pass_on.ensures.failed

pub returns-in_err-pass_on-clause-stopped : goal.returns-in_err-pass_on-clause-stopped
returns-in_err-pass_on-clause-stopped g c = λ _.
    let stage = g.T.Stage in
    let events = c.args.events.now in
    let place = c.loop-place.place in
    let event = event_at events place in
    let within : place < length events = omega (arith, c.loop-place-test.true, c.len-place-end.ensures) in
    (place + 1, after-take place (stage.world c.args.stage.now) (stage.world c.loop-place.stage) (stage.world c.report_event_at.new.stage) events event within (as_read events place within) (c.in_ok-sent.ensures.world event (found events place within)) c.loop-place.invariant.way.played)

-- the same in the last part, with which all is written
pub returns-clause-failed : goal.returns-clause-failed
returns-clause-failed g c = λ failed.
    let stage = g.T.Stage in
    let takes = g.K.Sink.takes in
    let events = c.args.events.now in
    let text = run_text (stage.world c.args.stage.now) events in
    let out = c.loop-place.out.items ++ end_line c.len.result c.loop-place.sent in
    let written = written-end takes c.args.sink.now c.loop-place.sink c.loop-place.out.items out text c.loop-place.place c.loop-place.sent (stage.world c.loop-place.stage) events (omega (arith, c.loop-place-test.false, c.len-place-end.ensures)) (omega arith) c.loop-place.invariant.sent (ap (λ n. c.loop-place.out.items ++ end_line n c.loop-place.sent) c.len.ensures) c.loop-place.invariant.written in
    fails_on takes g.K.Sink.fails g.met.K.Sink.takes_fails c.args.sink.now c.loop-place.sink c.write_last.new.sink out [] text written (c.write_last.ensures.failed failed)

pub returns-clause-memory : goal.returns-clause-memory
returns-clause-memory g c = λ failed.
    let stage = g.T.Stage in
    let takes = g.K.Sink.takes in
    let text = run_text (stage.world c.args.stage.now) c.args.events.now in
    subst (λ sink. SomeFront text (λ front. takes c.args.sink.now front sink)) (sym (c.write_last.ensures.memory failed))
    (stops takes c.args.sink.now c.loop-place.sink c.loop-place.out.items _ _ c.loop-place.invariant.written)

pub returns-clause-cause : goal.returns-clause-cause
returns-clause-cause g c = λ failed. Rose-after _ _ _ c.loop-place.invariant.count (c.write_last.ensures.cause failed)

-- all events were played when the last part was written
pub returns-clause-stopped : goal.returns-clause-stopped
returns-clause-stopped g c = λ _. (c.loop-place.place, c.loop-place.invariant.way.played)

-- the whole report was taken
pub returns-clause-told : goal.returns-clause-told
returns-clause-told g c =
    let stage = g.T.Stage in
    let takes = g.K.Sink.takes in
    let events = c.args.events.now in
    let text = run_text (stage.world c.args.stage.now) events in
    let out = c.loop-place.out.items ++ end_line c.len.result c.loop-place.sent in
    let written = written-end takes c.args.sink.now c.loop-place.sink c.loop-place.out.items out text c.loop-place.place c.loop-place.sent (stage.world c.loop-place.stage) events (omega (arith, c.loop-place-test.false, c.len-place-end.ensures)) (omega arith) c.loop-place.invariant.sent (ap (λ n. c.loop-place.out.items ++ end_line n c.loop-place.sent) c.len.ensures) c.loop-place.invariant.written in
    on_ok_weaker c.write_last.result (ends takes g.met.K.Sink.takes_then c.args.sink.now c.loop-place.sink c.write_last.new.sink out text written) c.write_last.ensures.written

-- the stage is at the last world
pub returns-clause-played : goal.returns-clause-played
returns-clause-played g c =
    let stage = g.T.Stage in
    on_ok_weaker c.write_last.result
    (λ _. whole_run (stage.world c.args.stage.now) (stage.world c.loop-place.stage) c.args.events.now c.loop-place.place (omega (arith, c.loop-place-test.false, c.len-place-end.ensures)) c.loop-place.invariant.way)
    c.write_last.ensures.written
