use Rattle.oc_calm.proofs.SingleRuns.{delivery_is}
use Rattle.oc_calm.proofs.Ways.{on_ok, on_err, same_played, same_begun}
use Rattle.oc_calm.proofs.playing.deliver_last.Goals as goal

pub returns-clause-ok : goal.returns-clause-ok
returns-clause-ok g c = on_ok c.play.result (same_played (delivery_is c.sent-number.result (g.C.Cluster.world c.args.cluster.now) c.sent-number.ensures)) c.play.ensures.ok

pub returns-clause-err : goal.returns-clause-err
returns-clause-err g c = on_err c.play.result (same_begun (delivery_is c.sent-number.result (g.C.Cluster.world c.args.cluster.now) c.sent-number.ensures)) c.play.ensures.err
