use Rattle.std.proofs.Common.{sym}
use Rattle.oc_calm.proofs.HealRuns.{idle_rises, asking_rises, joined_rises, acting_rests}
use Rattle.oc_calm.proofs.Ways.{on_ok, on_err, rest_played, same_played, same_begun}
use Rattle.oc_calm.proofs.joining.rise_once.Goals as goal

pub returns-in-Idle-clause-ok : goal.returns-in-Idle-clause-ok
returns-in-Idle-clause-ok g c = on_ok c.play.result (same_played (idle_rises c.args.leader (g.C.Cluster.world c.args.cluster.now) (sym c.in-Idle.ensures.mode))) c.play.ensures.ok

pub returns-in-Idle-clause-err : goal.returns-in-Idle-clause-err
returns-in-Idle-clause-err g c = on_err c.play.result (same_begun (idle_rises c.args.leader (g.C.Cluster.world c.args.cluster.now) (sym c.in-Idle.ensures.mode))) c.play.ensures.err

pub returns-in-Asking-clause-ok : goal.returns-in-Asking-clause-ok
returns-in-Asking-clause-ok g c =
    on_ok c.play-in-Asking.result (same_played (asking_rises c.args.leader c.in-Asking.peer (g.C.Cluster.world c.args.cluster.now) (sym c.in-Asking.ensures.mode))) c.play-in-Asking.ensures.ok

pub returns-in-Asking-clause-err : goal.returns-in-Asking-clause-err
returns-in-Asking-clause-err g c =
    on_err c.play-in-Asking.result (same_begun (asking_rises c.args.leader c.in-Asking.peer (g.C.Cluster.world c.args.cluster.now) (sym c.in-Asking.ensures.mode))) c.play-in-Asking.ensures.err

pub returns-in-Joined-clause-ok : goal.returns-in-Joined-clause-ok
returns-in-Joined-clause-ok g c =
    on_ok c.play-in-Joined.result (same_played (joined_rises c.args.leader c.in-Joined.peer (g.C.Cluster.world c.args.cluster.now) (sym c.in-Joined.ensures.mode))) c.play-in-Joined.ensures.ok

pub returns-in-Joined-clause-err : goal.returns-in-Joined-clause-err
returns-in-Joined-clause-err g c =
    on_err c.play-in-Joined.result (same_begun (joined_rises c.args.leader c.in-Joined.peer (g.C.Cluster.world c.args.cluster.now) (sym c.in-Joined.ensures.mode))) c.play-in-Joined.ensures.err

pub returns-in-Acting-clause-ok : goal.returns-in-Acting-clause-ok
returns-in-Acting-clause-ok g c =
    let w = g.C.Cluster.world c.args.cluster.now in
    same_played (acting_rests c.args.leader w (sym c.in-Acting.ensures.mode)) (rest_played w c.args.acts.now)
