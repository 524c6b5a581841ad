use Rattle.oc_calm.specs.Played.{delivery_run, ack_run}
use Rattle.oc_calm.proofs.SingleRuns.{check_in_is}
use Rattle.oc_calm.proofs.Ways.{on_ok, on_err, even_on_err, same_played, same_begun, then_played, cut_in_first, cut_in_second}
use Rattle.oc_calm.proofs.playing.check_in.Goals as goal

pub returns-in_err-play-clause-err : goal.returns-in_err-play-clause-err
returns-in_err-play-clause-err g c =
    even_on_err c.from_residual.result (same_begun (check_in_is c.args.node (g.C.Cluster.world c.args.cluster.now))
    (cut_in_first ack_run (cut_in_first delivery_run c.in_err-play.ensures.err)))

pub returns-in_err-deliver_last-clause-err : goal.returns-in_err-deliver_last-clause-err
returns-in_err-deliver_last-clause-err g c =
    even_on_err c.from_residual-in_err-deliver_last.result (same_begun (check_in_is c.args.node (g.C.Cluster.world c.args.cluster.now))
    (cut_in_first ack_run (cut_in_second c.in_ok-play.ensures.ok c.in_err-deliver_last.ensures.err)))

pub returns-clause-ok : goal.returns-clause-ok
returns-clause-ok g c =
    on_ok c.deliver_ack.result
    (λ last. same_played (check_in_is c.args.node (g.C.Cluster.world c.args.cluster.now)) (then_played (then_played c.in_ok-play.ensures.ok c.in_ok-deliver_last.ensures.ok) last))
    c.deliver_ack.ensures.ok

pub returns-clause-err : goal.returns-clause-err
returns-clause-err g c =
    on_err c.deliver_ack.result
    (λ last. same_begun (check_in_is c.args.node (g.C.Cluster.world c.args.cluster.now)) (cut_in_second (then_played c.in_ok-play.ensures.ok c.in_ok-deliver_last.ensures.ok) last))
    c.deliver_ack.ensures.err
