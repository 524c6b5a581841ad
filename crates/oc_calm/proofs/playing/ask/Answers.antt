use Rattle.oc_calm.specs.Played.{delivery_run}
use Rattle.oc_calm.proofs.JoinRuns.{ask_is}
use Rattle.oc_calm.proofs.Ways.{on_ok, on_err, even_on_err, same_played, same_begun, then_played, cut_in_first, cut_in_second}
use Rattle.oc_calm.proofs.playing.ask.Goals as goal

pub returns-in_err-play-clause-err : goal.returns-in_err-play-clause-err
returns-in_err-play-clause-err g c =
    even_on_err c.from_residual.result (same_begun (ask_is c.args.peer c.args.node (g.C.Cluster.world c.args.cluster.now)) (cut_in_first delivery_run c.in_err-play.ensures.err))

pub returns-clause-ok : goal.returns-clause-ok
returns-clause-ok g c =
    on_ok c.deliver_last.result (λ last. same_played (ask_is c.args.peer c.args.node (g.C.Cluster.world c.args.cluster.now)) (then_played c.in_ok-play.ensures.ok last)) c.deliver_last.ensures.ok

pub returns-clause-err : goal.returns-clause-err
returns-clause-err g c =
    on_err c.deliver_last.result (λ last. same_begun (ask_is c.args.peer c.args.node (g.C.Cluster.world c.args.cluster.now)) (cut_in_second c.in_ok-play.ensures.ok last)) c.deliver_last.ensures.err
