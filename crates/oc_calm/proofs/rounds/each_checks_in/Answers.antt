use Rattle.std.proofs.Common.{arith, ◌+◌, drop}
use Rattle.oc_model.specs.Runs.{for_each}
use Rattle.oc_calm.specs.Cluster.{IsNodeOf}
use Rattle.oc_calm.specs.Played.{check_in_run}
use Rattle.oc_calm.proofs.Each.{all_next, each_more, each_cut, each_done, nodes_stay}
use Rattle.oc_calm.proofs.Ways.{all_left, even_on_err}
use Rattle.oc_calm.proofs.rounds.each_checks_in.Goals as goal

pub loop-node-init : goal.loop-node-init
loop-node-init g c = record { left = all_left (for_each c.args.nodes.now check_in_run) (g.C.Cluster.world c.args.cluster.now) c.args.acts.now; nodes = c.requires }

pub check_in-requires : goal.check_in-requires
check_in-requires g c =
    (all_next (IsNodeOf (g.C.Cluster.world c.loop-node.cluster)) c.args.nodes.now c.loop-node.node-index c.node-item.result (omega arith) c.node-item.is c.loop-node.invariant.nodes).0

pub loop-node-preserved : goal.loop-node-preserved
loop-node-preserved g c =
    let nodes = c.args.nodes.now in
    let i = c.loop-node.node-index in
    let x = c.node-item.result in
    let played = c.in_ok-check_in.ensures.ok in
    record {
      left = each_more check_in_run nodes i x (omega arith) c.node-item.is c.loop-node.invariant.left played;
      nodes = nodes_stay (drop (i + 1) nodes) played (all_next (IsNodeOf (g.C.Cluster.world c.loop-node.cluster)) nodes i x (omega arith) c.node-item.is c.loop-node.invariant.nodes).1;
    }

pub returns-in_err-check_in-clause-err : goal.returns-in_err-check_in-clause-err
returns-in_err-check_in-clause-err g c =
    even_on_err c.from_residual.result
    (each_cut check_in_run c.args.nodes.now c.loop-node.node-index c.node-item.result (omega arith) c.node-item.is c.loop-node.invariant.left c.in_err-check_in.ensures.err)

pub returns-clause-ok : goal.returns-clause-ok
returns-clause-ok g c = each_done check_in_run c.args.nodes.now c.loop-node.node-index (omega arith) c.loop-node.invariant.left
