use Rattle.oc_calm.specs.Played.{join_run, rank_run}
use Rattle.oc_calm.proofs.Each.{node_stays}
use Rattle.oc_calm.proofs.JoinRuns.{join_by_is}
use Rattle.oc_calm.proofs.Ways.{on_ok, on_err, even_on_err, same_played, same_begun, then_played, cut_in_first, cut_in_second}
use Rattle.oc_calm.proofs.join_steps.join_by.Goals as goal

pub returns-in_err-ask-clause-err : goal.returns-in_err-ask-clause-err
returns-in_err-ask-clause-err g c =
    even_on_err c.from_residual.result (same_begun (join_by_is c.args.leader c.args.peer c.args.node (g.C.Cluster.world c.args.cluster.now))
    (cut_in_first (join_run c.args.peer c.args.node) (cut_in_first (rank_run c.args.leader c.args.peer) c.in_err-ask.ensures.err)))

pub tell_rank-requires-clause-leader : goal.tell_rank-requires-clause-leader
tell_rank-requires-clause-leader g c = node_stays c.args.leader c.in_ok-ask.ensures.ok c.requires.leader

pub tell_rank-requires-clause-node : goal.tell_rank-requires-clause-node
tell_rank-requires-clause-node g c = node_stays c.args.peer c.in_ok-ask.ensures.ok c.requires.peer

pub returns-in_err-tell_rank-clause-err : goal.returns-in_err-tell_rank-clause-err
returns-in_err-tell_rank-clause-err g c =
    even_on_err c.from_residual-in_err-tell_rank.result (same_begun (join_by_is c.args.leader c.args.peer c.args.node (g.C.Cluster.world c.args.cluster.now))
    (cut_in_first (join_run c.args.peer c.args.node) (cut_in_second c.in_ok-ask.ensures.ok c.in_err-tell_rank.ensures.err)))

pub join-requires-clause-peer : goal.join-requires-clause-peer
join-requires-clause-peer g c = node_stays c.args.peer (then_played c.in_ok-ask.ensures.ok c.in_ok-tell_rank.ensures.ok) c.requires.peer

pub join-requires-clause-node : goal.join-requires-clause-node
join-requires-clause-node g c = node_stays c.args.node (then_played c.in_ok-ask.ensures.ok c.in_ok-tell_rank.ensures.ok) c.requires.node

pub returns-clause-ok : goal.returns-clause-ok
returns-clause-ok g c =
    on_ok c.join.result
    (λ last. same_played (join_by_is c.args.leader c.args.peer c.args.node (g.C.Cluster.world c.args.cluster.now)) (then_played (then_played c.in_ok-ask.ensures.ok c.in_ok-tell_rank.ensures.ok) last))
    c.join.ensures.ok

pub returns-clause-err : goal.returns-clause-err
returns-clause-err g c =
    on_err c.join.result
    (λ last. same_begun (join_by_is c.args.leader c.args.peer c.args.node (g.C.Cluster.world c.args.cluster.now)) (cut_in_second (then_played c.in_ok-ask.ensures.ok c.in_ok-tell_rank.ensures.ok) last))
    c.join.ensures.err
