use Rattle.std.proofs.Common.{sym, ◌∙◌}
use Rattle.oc_calm.proofs.SingleRuns.{joined_is, other_is}
use Rattle.oc_calm.proofs.Ways.{on_ok, on_err, rest_played, same_played, same_begun}
use Rattle.oc_calm.proofs.playing.check_in_if_joined.Goals as goal

pub returns-in-Joined-clause-ok : goal.returns-in-Joined-clause-ok
returns-in-Joined-clause-ok g c =
    on_ok c.check_in.result (same_played (joined_is c.args.node c.in-Joined.field-0 (g.C.Cluster.world c.args.cluster.now) (sym c.in-Joined.ensures.mode))) c.check_in.ensures.ok

pub returns-in-Joined-clause-err : goal.returns-in-Joined-clause-err
returns-in-Joined-clause-err g c =
    on_err c.check_in.result (same_begun (joined_is c.args.node c.in-Joined.field-0 (g.C.Cluster.world c.args.cluster.now) (sym c.in-Joined.ensures.mode))) c.check_in.ensures.err

pub returns-in_default-clause-ok : goal.returns-in_default-clause-ok
returns-in_default-clause-ok g c =
    let w = g.C.Cluster.world c.args.cluster.now in
    same_played (other_is c.args.node w (λ p e. c.in_default.not-Joined p (c.mode.ensures.mode ∙ e))) (rest_played w c.args.acts.now)
