use Rattle.oc_calm.specs.Played.{check_ins_run, ticks_run}
use Rattle.oc_calm.proofs.Each.{roll_stays, timely_rest}
use Rattle.oc_calm.proofs.RoundRuns.{five_are, first_timely, middle_timely, last_timely}
use Rattle.oc_calm.proofs.Ways.{on_ok, on_err, even_on_err, same_played, same_begun, then_played, cut_in_first, cut_in_second}
use Rattle.oc_calm.proofs.first_steps.five_steps.Goals as goal

pub all_tick-requires-clause-time : goal.all_tick-requires-clause-time
all_tick-requires-clause-time g c = first_timely (g.C.Cluster.world c.args.cluster.now) c.requires.time

pub returns-in_err-all_tick-clause-err : goal.returns-in_err-all_tick-clause-err
returns-in_err-all_tick-clause-err g c =
    even_on_err c.from_residual.result (same_begun (five_are (g.C.Cluster.world c.args.cluster.now))
    (cut_in_first (ticks_run 15) (cut_in_first check_ins_run (cut_in_first (ticks_run 15) (cut_in_first check_ins_run c.in_err-all_tick.ensures.err)))))

pub all_check_in-requires : goal.all_check_in-requires
all_check_in-requires g c = roll_stays c.args.up.now c.in_ok-all_tick.ensures.ok c.requires.up

pub returns-in_err-all_check_in-clause-err : goal.returns-in_err-all_check_in-clause-err
returns-in_err-all_check_in-clause-err g c =
    even_on_err c.from_residual-in_err-all_check_in.result (same_begun (five_are (g.C.Cluster.world c.args.cluster.now))
    (cut_in_first (ticks_run 15) (cut_in_first check_ins_run (cut_in_first (ticks_run 15) (cut_in_second c.in_ok-all_tick.ensures.ok c.in_err-all_check_in.ensures.err)))))

pub all_tick-requires-2-clause-up : goal.all_tick-requires-2-clause-up
all_tick-requires-2-clause-up g c =
    roll_stays c.args.up.now (then_played c.in_ok-all_tick.ensures.ok c.in_ok-all_check_in.ensures.ok) c.requires.up

pub all_tick-requires-2-clause-time : goal.all_tick-requires-2-clause-time
all_tick-requires-2-clause-time g c =
    timely_rest (ticks_run 15) (then_played c.in_ok-all_tick.ensures.ok c.in_ok-all_check_in.ensures.ok) (middle_timely (g.C.Cluster.world c.args.cluster.now) c.requires.time)

pub returns-in_err-all_tick-2-clause-err : goal.returns-in_err-all_tick-2-clause-err
returns-in_err-all_tick-2-clause-err g c =
    even_on_err c.from_residual-in_err-all_tick-2.result (same_begun (five_are (g.C.Cluster.world c.args.cluster.now))
    (cut_in_first (ticks_run 15) (cut_in_first check_ins_run (cut_in_second (then_played c.in_ok-all_tick.ensures.ok c.in_ok-all_check_in.ensures.ok) c.in_err-all_tick-2.ensures.err))))

pub all_check_in-requires-2 : goal.all_check_in-requires-2
all_check_in-requires-2 g c =
    roll_stays c.args.up.now (then_played (then_played c.in_ok-all_tick.ensures.ok c.in_ok-all_check_in.ensures.ok) c.in_ok-all_tick-2.ensures.ok) c.requires.up

pub returns-in_err-all_check_in-2-clause-err : goal.returns-in_err-all_check_in-2-clause-err
returns-in_err-all_check_in-2-clause-err g c =
    even_on_err c.from_residual-in_err-all_check_in-2.result (same_begun (five_are (g.C.Cluster.world c.args.cluster.now))
    (cut_in_first (ticks_run 15)
    (cut_in_second (then_played (then_played c.in_ok-all_tick.ensures.ok c.in_ok-all_check_in.ensures.ok) c.in_ok-all_tick-2.ensures.ok) c.in_err-all_check_in-2.ensures.err)))

pub all_tick-requires-3-clause-up : goal.all_tick-requires-3-clause-up
all_tick-requires-3-clause-up g c =
    roll_stays c.args.up.now
    (then_played (then_played (then_played c.in_ok-all_tick.ensures.ok c.in_ok-all_check_in.ensures.ok) c.in_ok-all_tick-2.ensures.ok) c.in_ok-all_check_in-2.ensures.ok) c.requires.up

pub all_tick-requires-3-clause-time : goal.all_tick-requires-3-clause-time
all_tick-requires-3-clause-time g c =
    timely_rest (ticks_run 15)
    (then_played (then_played (then_played c.in_ok-all_tick.ensures.ok c.in_ok-all_check_in.ensures.ok) c.in_ok-all_tick-2.ensures.ok) c.in_ok-all_check_in-2.ensures.ok)
    (last_timely (g.C.Cluster.world c.args.cluster.now) c.requires.time)

pub returns-clause-ok : goal.returns-clause-ok
returns-clause-ok g c =
    on_ok c.all_tick-3.result
    (λ last. same_played (five_are (g.C.Cluster.world c.args.cluster.now))
    (then_played (then_played (then_played (then_played c.in_ok-all_tick.ensures.ok c.in_ok-all_check_in.ensures.ok) c.in_ok-all_tick-2.ensures.ok) c.in_ok-all_check_in-2.ensures.ok) last))
    c.all_tick-3.ensures.ok

pub returns-clause-err : goal.returns-clause-err
returns-clause-err g c =
    on_err c.all_tick-3.result
    (λ last. same_begun (five_are (g.C.Cluster.world c.args.cluster.now))
    (cut_in_second (then_played (then_played (then_played c.in_ok-all_tick.ensures.ok c.in_ok-all_check_in.ensures.ok) c.in_ok-all_tick-2.ensures.ok) c.in_ok-all_check_in-2.ensures.ok) last))
    c.all_tick-3.ensures.err
