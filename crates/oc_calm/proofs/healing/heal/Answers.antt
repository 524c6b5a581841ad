use Rattle.std.proofs.Common.{sym, subst, ◌∙◌, ◌-◌, arith, length}
use Rattle.oc_base.specs.declared.limits.TheConstants.{LAST_SECOND}
use Rattle.oc_model.specs.NextWorld.{heal_acts}
use Rattle.oc_model.specs.World.{ids}
use Rattle.oc_calm.specs.Cluster.{IsRoll}
use Rattle.oc_calm.specs.CalmRuns.{heal_run}
use Rattle.oc_calm.specs.Way.{acts_of}
use Rattle.oc_calm.proofs.FoundLengths.{nothing}
use Rattle.oc_calm.proofs.HealRuns.{able_acts, leaderless, roomless}
use Rattle.oc_calm.proofs.RoundRuns.{roll_ups}
use Rattle.oc_calm.proofs.SettleActs.{healed_word, acts_world, acts_way, unhealed_word, no_world, on_no_way}
use Rattle.oc_calm.proofs.Timely.{heals_timely}
use Rattle.oc_calm.proofs.Ways.{even_on_err}
use Rattle.oc_calm.proofs.healing.heal.Goals as goal

pub returns-in_err-up-clause-err : goal.returns-in_err-up-clause-err
returns-in_err-up-clause-err g c =
    let w = g.C.Cluster.world c.args.cluster.now in
    even_on_err c.from_residual.result (on_no_way (acts_of (heal_acts w)) w)

pub returns-in_default-clause-word : goal.returns-in_default-clause-word
returns-in_default-clause-word g c =
    let w = g.C.Cluster.world c.args.cluster.now in
    unhealed_word (heal_acts w) (leaderless w (sym (nothing c.first_member.result c.in_default.not-Some) ∙ c.first_member.ensures.leader))

pub returns-in_default-clause-world : goal.returns-in_default-clause-world
returns-in_default-clause-world g c =
    let w = g.C.Cluster.world c.args.cluster.now in
    no_world w (heal_acts w) (leaderless w (sym (nothing c.first_member.result c.in_default.not-Some) ∙ c.first_member.ensures.leader))

pub returns-then-not-all_have_room-clause-word : goal.returns-then-not-all_have_room-clause-word
returns-then-not-all_have_room-clause-word g c =
    let w = g.C.Cluster.world c.args.cluster.now in
    unhealed_word (heal_acts w)
    (roomless w c.in-Some.leader c.deref-2.result.now (subst (IsRoll w) (sym c.deref-2.ensures.value) c.in_ok-up.ensures) c.in-Some.ensures.leader (sym c.all_have_room.ensures ∙ c.if-not-all_have_room.true))

pub returns-then-not-all_have_room-clause-world : goal.returns-then-not-all_have_room-clause-world
returns-then-not-all_have_room-clause-world g c =
    let w = g.C.Cluster.world c.args.cluster.now in
    no_world w (heal_acts w)
    (roomless w c.in-Some.leader c.deref-2.result.now (subst (IsRoll w) (sym c.deref-2.ensures.value) c.in_ok-up.ensures) c.in-Some.ensures.leader (sym c.all_have_room.ensures ∙ c.if-not-all_have_room.true))

pub all_have_room-requires : goal.all_have_room-requires
all_have_room-requires g c =
    let w = g.C.Cluster.world c.args.cluster.now in
    roll_ups w c.deref-2.result.now (subst (IsRoll w) (sym c.deref-2.ensures.value) c.in_ok-up.ensures)

pub play_heal-requires-clause-time : goal.play_heal-requires-clause-time
unfolding heal_run
play_heal-requires-clause-time g c =
    let w = g.C.Cluster.world c.args.cluster.now in
    heals_timely c.in-Some.leader w (length (ids w)) (LAST_SECOND - 60) c.in_ok-up.ensures.ids (omega arith) c.requires

pub returns-in_err-play_heal-clause-err : goal.returns-in_err-play_heal-clause-err
returns-in_err-play_heal-clause-err g c =
    let w = g.C.Cluster.world c.args.cluster.now in
    even_on_err c.from_residual-in_err-play_heal.result
    (acts_way (heal_run c.in-Some.leader) w (g.C.Cluster.world c.play_heal.new.cluster) (heal_acts w)
    (able_acts w c.in-Some.leader c.deref-2.result.now (subst (IsRoll w) (sym c.deref-2.ensures.value) c.in_ok-up.ensures) c.in-Some.ensures.leader (sym c.all_have_room.ensures ∙ c.if-not-all_have_room.false)) c.in_err-play_heal.ensures.err)

pub returns-clause-word : goal.returns-clause-word
returns-clause-word g c =
    let w = g.C.Cluster.world c.args.cluster.now in
    healed_word (heal_run c.in-Some.leader) w (g.C.Cluster.world c.play_heal.new.cluster) c.play_heal.new.acts (heal_acts w)
    (able_acts w c.in-Some.leader c.deref-2.result.now (subst (IsRoll w) (sym c.deref-2.ensures.value) c.in_ok-up.ensures) c.in-Some.ensures.leader (sym c.all_have_room.ensures ∙ c.if-not-all_have_room.false)) c.in_ok-play_heal.ensures.ok

pub returns-clause-world : goal.returns-clause-world
returns-clause-world g c =
    let w = g.C.Cluster.world c.args.cluster.now in
    acts_world (heal_run c.in-Some.leader) w (g.C.Cluster.world c.play_heal.new.cluster) c.play_heal.new.acts (heal_acts w)
    (able_acts w c.in-Some.leader c.deref-2.result.now (subst (IsRoll w) (sym c.deref-2.ensures.value) c.in_ok-up.ensures) c.in-Some.ensures.leader (sym c.all_have_room.ensures ∙ c.if-not-all_have_room.false)) c.in_ok-play_heal.ensures.ok
