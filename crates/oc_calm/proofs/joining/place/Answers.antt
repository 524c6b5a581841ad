use Rattle.std.proofs.Common.{◌∙◌, sym, true≢false, eqb-true, eq-eqb}
use Rattle.oc_calm.proofs.HealRuns.{place_rests, place_joins, place_joins_by}
use Rattle.oc_calm.proofs.KnownPlaces.{forgotten_after}
use Rattle.oc_calm.proofs.Ways.{on_ok, on_err, rest_played, same_played, same_begun}
use Rattle.oc_calm.proofs.joining.place.Goals as goal

pub returns-then-is_placed-clause-ok : goal.returns-then-is_placed-clause-ok
returns-then-is_placed-clause-ok g c =
    let w = g.C.Cluster.world c.args.cluster.now in
    same_played (place_rests c.args.leader c.args.node w (sym c.is_placed.ensures.placed ∙ c.if-is_placed.true)) (rest_played w c.args.acts.now)

pub returns-then-eq-clause-ok : goal.returns-then-eq-clause-ok
returns-then-eq-clause-ok g c =
    let w = g.C.Cluster.world c.args.cluster.now in
    on_ok c.join.result
    (same_played (place_joins c.args.leader c.member_before-parent.result c.args.node w (sym c.is_placed.ensures.placed ∙ c.if-is_placed.false) c.member_before-parent.ensures.member (eqb-true c.member_before-parent.result c.args.leader (sym c.eq.ensures ∙ c.if-eq.true)))) c.join.ensures.ok

pub returns-then-eq-clause-err : goal.returns-then-eq-clause-err
returns-then-eq-clause-err g c =
    let w = g.C.Cluster.world c.args.cluster.now in
    on_err c.join.result
    (same_begun (place_joins c.args.leader c.member_before-parent.result c.args.node w (sym c.is_placed.ensures.placed ∙ c.if-is_placed.false) c.member_before-parent.ensures.member (eqb-true c.member_before-parent.result c.args.leader (sym c.eq.ensures ∙ c.if-eq.true)))) c.join.ensures.err

pub returns-then-eq-clause-known : goal.returns-then-eq-clause-known
returns-then-eq-clause-known g c =
    on_ok c.join.result (λ played. forgotten_after c.args.leader c.forget.new.known played (c.forget.auto.known ∙ c.is_placed.ensures.known.places) c.forget.ensures) c.join.ensures.ok

pub returns-else-eq-clause-ok : goal.returns-else-eq-clause-ok
returns-else-eq-clause-ok g c =
    let w = g.C.Cluster.world c.args.cluster.now in
    on_ok c.join_by.result
    (same_played (place_joins_by c.args.leader c.member_before-parent.result c.args.node w (sym c.is_placed.ensures.placed ∙ c.if-is_placed.false) c.member_before-parent.ensures.member
    (λ e. true≢false (sym (eq-eqb c.member_before-parent.result c.args.leader e) ∙ (sym c.eq.ensures ∙ c.if-eq.false))))) c.join_by.ensures.ok

pub returns-else-eq-clause-err : goal.returns-else-eq-clause-err
returns-else-eq-clause-err g c =
    let w = g.C.Cluster.world c.args.cluster.now in
    on_err c.join_by.result
    (same_begun (place_joins_by c.args.leader c.member_before-parent.result c.args.node w (sym c.is_placed.ensures.placed ∙ c.if-is_placed.false) c.member_before-parent.ensures.member
    (λ e. true≢false (sym (eq-eqb c.member_before-parent.result c.args.leader e) ∙ (sym c.eq.ensures ∙ c.if-eq.false))))) c.join_by.ensures.err

pub returns-else-eq-clause-known : goal.returns-else-eq-clause-known
returns-else-eq-clause-known g c =
    on_ok c.join_by.result (λ played. forgotten_after c.args.leader c.forget.new.known played (c.forget.auto.known ∙ c.is_placed.ensures.known.places) c.forget.ensures) c.join_by.ensures.ok
