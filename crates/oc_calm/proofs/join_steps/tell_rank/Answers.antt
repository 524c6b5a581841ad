use Rattle.std.proofs.Common.{◌∙◌, refl, sym, subst}
use Rattle.std.specs.List.{AllByRecursion}
use Rattle.oc_calm.specs.Cluster.{IsNodeOf}
use Rattle.oc_calm.proofs.Each.{node_stays}
use Rattle.oc_calm.proofs.JoinRuns.{down_run, down_is, rank_is}
use Rattle.oc_calm.proofs.Ways.{on_ok, on_err, even_on_err, not_begun, same_played, same_begun, then_played, cut_in_first, cut_in_second}
use Rattle.oc_calm.proofs.join_steps.tell_rank.Goals as goal

pub returns-in_err-play-clause-err : goal.returns-in_err-play-clause-err
returns-in_err-play-clause-err g c =
    even_on_err c.from_residual.result (same_begun (rank_is c.args.leader c.args.node (g.C.Cluster.world c.args.cluster.now)) (cut_in_first (down_run c.args.leader c.args.node) c.in_err-play.ensures.err))

pub below-requires : goal.below-requires
below-requires g c = node_stays c.args.node c.in_ok-play.ensures.ok c.requires.node

pub returns-in_err-nodes-clause-err : goal.returns-in_err-nodes-clause-err
returns-in_err-nodes-clause-err g c =
    even_on_err c.from_residual-in_err-nodes.result (same_begun (rank_is c.args.leader c.args.node (g.C.Cluster.world c.args.cluster.now))
    (cut_in_second c.in_ok-play.ensures.ok (not_begun (down_run c.args.leader c.args.node) (g.C.Cluster.world c.play.new.cluster) (g.C.Cluster.world c.play.new.cluster) refl)))

pub each_checks_in-requires : goal.each_checks_in-requires
each_checks_in-requires g c = subst (AllByRecursion (IsNodeOf (g.C.Cluster.world c.play.new.cluster))) (sym c.deref.ensures.value) c.in_ok-nodes.ensures.nodes

pub returns-clause-ok : goal.returns-clause-ok
returns-clause-ok g c =
    let v = g.C.Cluster.world c.play.new.cluster in
    on_ok c.each_checks_in.result
    (λ last. same_played (rank_is c.args.leader c.args.node (g.C.Cluster.world c.args.cluster.now))
    (then_played {g = down_run c.args.leader c.args.node} c.in_ok-play.ensures.ok (same_played (down_is c.args.leader c.args.node v c.deref.result.now (c.deref.ensures.value ∙ c.in_ok-nodes.ensures.below)) last)))
    c.each_checks_in.ensures.ok

pub returns-clause-err : goal.returns-clause-err
returns-clause-err g c =
    let v = g.C.Cluster.world c.play.new.cluster in
    on_err c.each_checks_in.result
    (λ last. same_begun (rank_is c.args.leader c.args.node (g.C.Cluster.world c.args.cluster.now))
    (cut_in_second {g = down_run c.args.leader c.args.node} c.in_ok-play.ensures.ok (same_begun (down_is c.args.leader c.args.node v c.deref.result.now (c.deref.ensures.value ∙ c.in_ok-nodes.ensures.below)) last)))
    c.each_checks_in.ensures.err
