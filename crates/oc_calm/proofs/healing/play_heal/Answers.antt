use Rattle.oc_calm.specs.Played.{five_run}
use Rattle.oc_calm.specs.CalmRuns.{places_run, settle_run}
use Rattle.oc_calm.proofs.Each.{roll_stays, node_stays, timely_rest}
use Rattle.oc_calm.proofs.HealRuns.{heal_is, first_timely, last_timely}
use Rattle.oc_calm.proofs.Ways.{on_ok, on_err, even_on_err, same_played, same_begun, then_played, cut_in_first, cut_in_second}
use Rattle.oc_calm.proofs.healing.play_heal.Goals as goal

pub returns-in_err-rise-clause-err : goal.returns-in_err-rise-clause-err
returns-in_err-rise-clause-err g c =
    even_on_err c.from_residual.result (same_begun (heal_is c.args.leader (g.C.Cluster.world c.args.cluster.now))
    (cut_in_first settle_run (cut_in_first (places_run c.args.leader) (cut_in_first five_run c.in_err-rise.ensures.err))))

pub five_steps-requires-clause-up : goal.five_steps-requires-clause-up
five_steps-requires-clause-up g c = roll_stays c.args.up.now c.in_ok-rise.ensures.ok c.requires.up

pub five_steps-requires-clause-time : goal.five_steps-requires-clause-time
five_steps-requires-clause-time g c = timely_rest five_run c.in_ok-rise.ensures.ok (first_timely c.args.leader (g.C.Cluster.world c.args.cluster.now) c.requires.time)

pub returns-in_err-five_steps-clause-err : goal.returns-in_err-five_steps-clause-err
returns-in_err-five_steps-clause-err g c =
    even_on_err c.from_residual-in_err-five_steps.result (same_begun (heal_is c.args.leader (g.C.Cluster.world c.args.cluster.now))
    (cut_in_first settle_run (cut_in_first (places_run c.args.leader) (cut_in_second c.in_ok-rise.ensures.ok c.in_err-five_steps.ensures.err))))

pub all_join-requires-clause-up : goal.all_join-requires-clause-up
all_join-requires-clause-up g c = roll_stays c.args.up.now (then_played c.in_ok-rise.ensures.ok c.in_ok-five_steps.ensures.ok) c.requires.up

pub all_join-requires-clause-leader : goal.all_join-requires-clause-leader
all_join-requires-clause-leader g c = node_stays c.args.leader (then_played c.in_ok-rise.ensures.ok c.in_ok-five_steps.ensures.ok) c.requires.leader.0

pub returns-in_err-all_join-clause-err : goal.returns-in_err-all_join-clause-err
returns-in_err-all_join-clause-err g c =
    even_on_err c.from_residual-in_err-all_join.result (same_begun (heal_is c.args.leader (g.C.Cluster.world c.args.cluster.now))
    (cut_in_first settle_run (cut_in_second (then_played c.in_ok-rise.ensures.ok c.in_ok-five_steps.ensures.ok) c.in_err-all_join.ensures.err)))

pub play_settle-requires-clause-up : goal.play_settle-requires-clause-up
play_settle-requires-clause-up g c =
    roll_stays c.args.up.now (then_played (then_played c.in_ok-rise.ensures.ok c.in_ok-five_steps.ensures.ok) c.in_ok-all_join.ensures.ok) c.requires.up

pub play_settle-requires-clause-time : goal.play_settle-requires-clause-time
play_settle-requires-clause-time g c =
    timely_rest settle_run (then_played (then_played c.in_ok-rise.ensures.ok c.in_ok-five_steps.ensures.ok) c.in_ok-all_join.ensures.ok)
    (last_timely c.args.leader (g.C.Cluster.world c.args.cluster.now) c.requires.time)

pub returns-clause-ok : goal.returns-clause-ok
returns-clause-ok g c =
    on_ok c.play_settle.result
    (λ last. same_played (heal_is c.args.leader (g.C.Cluster.world c.args.cluster.now))
    (then_played (then_played (then_played c.in_ok-rise.ensures.ok c.in_ok-five_steps.ensures.ok) c.in_ok-all_join.ensures.ok) last))
    c.play_settle.ensures.ok

pub returns-clause-err : goal.returns-clause-err
returns-clause-err g c =
    on_err c.play_settle.result
    (λ last. same_begun (heal_is c.args.leader (g.C.Cluster.world c.args.cluster.now))
    (cut_in_second (then_played (then_played c.in_ok-rise.ensures.ok c.in_ok-five_steps.ensures.ok) c.in_ok-all_join.ensures.ok) last))
    c.play_settle.ensures.err
