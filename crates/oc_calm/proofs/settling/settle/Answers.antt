use Rattle.std.proofs.Common.{sym, ◌∙◌, ◌-◌, arith, length}
use Rattle.oc_base.specs.declared.limits.TheConstants.{LAST_SECOND}
use Rattle.oc_model.specs.NextWorld.{settle_acts}
use Rattle.oc_model.specs.World.{ids}
use Rattle.oc_calm.specs.CalmRuns.{settle_run}
use Rattle.oc_calm.specs.Way.{acts_of}
use Rattle.oc_calm.proofs.SettleActs.{ready_acts, unready_acts, settled_word, acts_world, acts_way, unsettled_word, no_world, on_no_way}
use Rattle.oc_calm.proofs.Timely.{settles_timely}
use Rattle.oc_calm.proofs.Ways.{even_on_err}
use Rattle.oc_calm.proofs.settling.settle.Goals as goal

pub returns-in_err-up-clause-err : goal.returns-in_err-up-clause-err
returns-in_err-up-clause-err g c =
    let w = g.C.Cluster.world c.args.cluster.now in
    even_on_err c.from_residual.result (on_no_way (acts_of (settle_acts w)) w)

pub returns-in_err-lengths-clause-err : goal.returns-in_err-lengths-clause-err
returns-in_err-lengths-clause-err g c =
    let w = g.C.Cluster.world c.args.cluster.now in
    even_on_err c.from_residual-in_err-lengths.result (on_no_way (acts_of (settle_acts w)) w)

pub returns-then-not-is_ready-clause-word : goal.returns-then-not-is_ready-clause-word
returns-then-not-is_ready-clause-word g c =
    let w = g.C.Cluster.world c.args.cluster.now in
    unsettled_word (settle_acts w) (unready_acts w (sym c.is_ready.ensures ∙ c.if-not-is_ready.true))

pub returns-then-not-is_ready-clause-world : goal.returns-then-not-is_ready-clause-world
returns-then-not-is_ready-clause-world g c =
    let w = g.C.Cluster.world c.args.cluster.now in
    no_world w (settle_acts w) (unready_acts w (sym c.is_ready.ensures ∙ c.if-not-is_ready.true))

pub play_settle-requires-clause-time : goal.play_settle-requires-clause-time
unfolding settle_run
play_settle-requires-clause-time g c =
    let w = g.C.Cluster.world c.args.cluster.now in
    settles_timely w (length (ids w)) (LAST_SECOND - 60) c.in_ok-up.ensures.ids (omega arith) c.requires

pub returns-in_err-play_settle-clause-err : goal.returns-in_err-play_settle-clause-err
returns-in_err-play_settle-clause-err g c =
    let w = g.C.Cluster.world c.args.cluster.now in
    even_on_err c.from_residual-in_err-play_settle.result
    (acts_way settle_run w (g.C.Cluster.world c.play_settle.new.cluster) (settle_acts w) (ready_acts w (sym c.is_ready.ensures ∙ c.if-not-is_ready.false)) c.in_err-play_settle.ensures.err)

pub returns-clause-word : goal.returns-clause-word
returns-clause-word g c =
    let w = g.C.Cluster.world c.args.cluster.now in
    settled_word settle_run w (g.C.Cluster.world c.play_settle.new.cluster) c.play_settle.new.acts (settle_acts w) (ready_acts w (sym c.is_ready.ensures ∙ c.if-not-is_ready.false)) c.in_ok-play_settle.ensures.ok

pub returns-clause-world : goal.returns-clause-world
returns-clause-world g c =
    let w = g.C.Cluster.world c.args.cluster.now in
    acts_world settle_run w (g.C.Cluster.world c.play_settle.new.cluster) c.play_settle.new.acts (settle_acts w) (ready_acts w (sym c.is_ready.ensures ∙ c.if-not-is_ready.false)) c.in_ok-play_settle.ensures.ok
