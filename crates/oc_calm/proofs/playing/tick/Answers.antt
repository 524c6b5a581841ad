use Rattle.std.proofs.Common.{ℕ, ◌+◌, ◌≤◌, ap, subst, sym, arith}
use Rattle.oc_base.specs.declared.limits.TheConstants.{LAST_SECOND}
use Rattle.oc_calm.specs.Played.{tick_run}
use Rattle.oc_calm.proofs.SingleRuns.{tick_is}
use Rattle.oc_calm.proofs.Ways.{on_ok, on_err, same_played, same_begun}
use Rattle.oc_calm.proofs.playing.tick.Goals as goal

pub overflow_add-now : goal.overflow_add-now
unfolding tick_run
overflow_add-now g c = omega (arith, c.requires.time.0, c.clock.ensures)

pub play-requires : goal.play-requires
unfolding tick_run
play-requires g c = (c.requires.node.0, subst (λ (t : ℕ). t + c.args.more ≤ LAST_SECOND) (sym c.clock.ensures) c.requires.time.0)

pub returns-clause-ok : goal.returns-clause-ok
returns-clause-ok g c =
    on_ok c.play.result (same_played (tick_is c.args.more c.args.node (c.clock.result + c.args.more) (g.C.Cluster.world c.args.cluster.now) (ap (λ (t : ℕ). t + c.args.more) c.clock.ensures))) c.play.ensures.ok

pub returns-clause-err : goal.returns-clause-err
returns-clause-err g c =
    on_err c.play.result (same_begun (tick_is c.args.more c.args.node (c.clock.result + c.args.more) (g.C.Cluster.world c.args.cluster.now) (ap (λ (t : ℕ). t + c.args.more) c.clock.ensures))) c.play.ensures.err
