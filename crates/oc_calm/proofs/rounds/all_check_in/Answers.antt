use Rattle.std.proofs.Common.{arith, ◌+◌, drop}
use Rattle.oc_model.specs.Runs.{for_each}
use Rattle.oc_calm.specs.Cluster.{IsUpNode}
use Rattle.oc_calm.specs.Played.{check_ins_run, joined_run}
use Rattle.oc_calm.proofs.Each.{all_next, left_as, each_more, each_cut, each_done, up_nodes_stay}
use Rattle.oc_calm.proofs.RoundRuns.{check_ins_are, roll_ups}
use Rattle.oc_calm.proofs.Ways.{all_left, even_on_err}
use Rattle.oc_calm.proofs.rounds.all_check_in.Goals as goal

pub loop-node-init : goal.loop-node-init
loop-node-init g c =
    let w = g.C.Cluster.world c.args.cluster.now in
    record {
      left = left_as (for_each c.args.up.now joined_run) (check_ins_are w c.args.up.now c.requires) (all_left check_ins_run w c.args.acts.now);
      nodes = roll_ups w c.args.up.now c.requires;
    }

pub check_in_if_joined-requires : goal.check_in_if_joined-requires
check_in_if_joined-requires g c =
    (all_next (IsUpNode (g.C.Cluster.world c.loop-node.cluster)) c.args.up.now c.loop-node.node-index c.node-item.result (omega arith) c.node-item.is c.loop-node.invariant.nodes).0

pub loop-node-preserved : goal.loop-node-preserved
loop-node-preserved g c =
    let up = c.args.up.now in
    let i = c.loop-node.node-index in
    let x = c.node-item.result in
    let played = c.in_ok-check_in_if_joined.ensures.ok in
    record {
      left = each_more joined_run up i x (omega arith) c.node-item.is c.loop-node.invariant.left played;
      nodes = up_nodes_stay (drop (i + 1) up) played (all_next (IsUpNode (g.C.Cluster.world c.loop-node.cluster)) up i x (omega arith) c.node-item.is c.loop-node.invariant.nodes).1;
    }

pub returns-in_err-check_in_if_joined-clause-err : goal.returns-in_err-check_in_if_joined-clause-err
returns-in_err-check_in_if_joined-clause-err g c =
    even_on_err c.from_residual.result
    (each_cut joined_run c.args.up.now c.loop-node.node-index c.node-item.result (omega arith) c.node-item.is c.loop-node.invariant.left c.in_err-check_in_if_joined.ensures.err)

pub returns-clause-ok : goal.returns-clause-ok
returns-clause-ok g c = each_done joined_run c.args.up.now c.loop-node.node-index (omega arith) c.loop-node.invariant.left
