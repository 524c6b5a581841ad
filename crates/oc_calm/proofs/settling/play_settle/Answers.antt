use Rattle.std.proofs.Common.{sym, subst}
use Rattle.oc_model.specs.Runs.{Run}
use Rattle.oc_calm.specs.Played.{five_run}
use Rattle.oc_calm.specs.CalmRuns.{tellings_run}
use Rattle.oc_calm.specs.Timely.{AreTimely}
use Rattle.oc_calm.proofs.Each.{roll_stays, timely_front}
use Rattle.oc_calm.proofs.TellingRuns.{settle_is}
use Rattle.oc_calm.proofs.Ways.{on_ok, on_err, even_on_err, same_played, same_begun, then_played, cut_in_first, cut_in_second}
use Rattle.oc_calm.proofs.settling.play_settle.Goals as goal

pub five_steps-requires-clause-time : goal.five_steps-requires-clause-time
five_steps-requires-clause-time g c =
    let w = g.C.Cluster.world c.args.cluster.now in
    timely_front (five_run w) tellings_run (subst (λ (r : Run). AreTimely r.acts) (sym (settle_is w)) c.requires.time)

pub returns-in_err-five_steps-clause-err : goal.returns-in_err-five_steps-clause-err
returns-in_err-five_steps-clause-err g c =
    even_on_err c.from_residual.result (same_begun (settle_is (g.C.Cluster.world c.args.cluster.now)) (cut_in_first tellings_run c.in_err-five_steps.ensures.err))

pub all_tell-requires : goal.all_tell-requires
all_tell-requires g c = roll_stays c.args.up.now c.in_ok-five_steps.ensures.ok c.requires.up

pub returns-clause-ok : goal.returns-clause-ok
returns-clause-ok g c =
    on_ok c.all_tell.result (λ last. same_played (settle_is (g.C.Cluster.world c.args.cluster.now)) (then_played c.in_ok-five_steps.ensures.ok last)) c.all_tell.ensures.ok

pub returns-clause-err : goal.returns-clause-err
returns-clause-err g c =
    on_err c.all_tell.result (λ last. same_begun (settle_is (g.C.Cluster.world c.args.cluster.now)) (cut_in_second c.in_ok-five_steps.ensures.ok last)) c.all_tell.ensures.err
