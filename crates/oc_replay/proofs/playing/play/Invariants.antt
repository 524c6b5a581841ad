use Rattle.std.proofs.Common.{◌≡◌, length}
use Rattle.oc_replay.proofs.Running.{IsOnTheWay}
use Rattle.oc_replay.proofs.playing.play.Given as goal

-- the run is under way
abbrev pub invariant-loop-place : goal.invariant-loop-place
invariant-loop-place g l =
    record {
      way : IsOnTheWay (g.T.Stage.world l.fn.stage) (g.T.Stage.world l.stage) l.events l.place;
      sent : l.sent ≡ length (g.T.Stage.world l.stage).net;
    }
