use Rattle.std.proofs.Common.{◌≡◌, length, drop}
use Rattle.oc_io.specs.Faults.{NoFall}
use Rattle.oc_replay.specs.Report.{told_from, run_text}
use Rattle.oc_replay.proofs.Running.{IsOnTheWay}
use Rattle.oc_replay.proofs.Written.{IsWritten}
use Rattle.oc_replay.proofs.reporting.report.Given as goal

-- the report is written as far as the events went
abbrev pub invariant-loop-place : goal.invariant-loop-place
invariant-loop-place g l =
    let opened = g.T.Stage.world l.fn.stage in
    let world = g.T.Stage.world l.stage in
    record {
      written : IsWritten g.K.Sink.takes l.fn.sink l.sink l.out.items (told_from l.place world (drop l.place l.events)) (run_text opened l.events);
      way : IsOnTheWay opened world l.events l.place;
      sent : l.sent ≡ length world.net;
      count : NoFall (g.K.Sink.faults l.fn.sink) (g.K.Sink.faults l.sink);
    }
