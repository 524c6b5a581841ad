use Rattle.std.proofs.Common.{sym, ◌∙◌}
use Rattle.oc_calm.proofs.SingleRuns.{ack_is, no_ack_is}
use Rattle.oc_calm.proofs.Ways.{even_on_err, rest_played, same_played, same_begun}
use Rattle.oc_calm.proofs.playing.deliver_ack.Goals as goal

pub returns-in_err-deliver_last-clause-err : goal.returns-in_err-deliver_last-clause-err
returns-in_err-deliver_last-clause-err g c = even_on_err c.from_residual.result (same_begun (ack_is (g.C.Cluster.world c.args.cluster.now) (sym c.last_is_ack.ensures ∙ c.if-last_is_ack.true)) c.in_err-deliver_last.ensures.err)

pub returns-in_ok-deliver_last-clause-ok : goal.returns-in_ok-deliver_last-clause-ok
returns-in_ok-deliver_last-clause-ok g c = same_played (ack_is (g.C.Cluster.world c.args.cluster.now) (sym c.last_is_ack.ensures ∙ c.if-last_is_ack.true)) c.in_ok-deliver_last.ensures.ok

pub returns-else-last_is_ack-clause-ok : goal.returns-else-last_is_ack-clause-ok
returns-else-last_is_ack-clause-ok g c =
    let w = g.C.Cluster.world c.args.cluster.now in
    same_played (no_ack_is w (sym c.last_is_ack.ensures ∙ c.if-last_is_ack.false)) (rest_played w c.args.acts.now)
