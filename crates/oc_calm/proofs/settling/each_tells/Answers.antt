use Rattle.std.proofs.Common.{arith, ◌+◌, drop}
use Rattle.oc_model.specs.Runs.{for_each}
use Rattle.oc_calm.specs.Cluster.{IsUpNode}
use Rattle.oc_calm.specs.CalmRuns.{telling_run, tellings_run}
use Rattle.oc_calm.proofs.Each.{all_next, left_as, each_more, each_cut, each_done, up_nodes_stay}
use Rattle.oc_calm.proofs.TellingRuns.{tellings_are}
use Rattle.oc_calm.proofs.Ways.{all_left, even_on_err}
use Rattle.oc_calm.proofs.settling.each_tells.Goals as goal

pub loop-node-init : goal.loop-node-init
loop-node-init g c =
    let w = g.C.Cluster.world c.args.cluster.now in
    record {
      left = left_as (for_each c.args.nodes.now telling_run) (tellings_are w c.args.nodes.now c.requires.order) (all_left tellings_run w c.args.acts.now);
      nodes = c.requires.nodes;
    }

pub tell_all-requires : goal.tell_all-requires
tell_all-requires g c =
    (all_next (IsUpNode (g.C.Cluster.world c.loop-node.cluster)) c.args.nodes.now c.loop-node.node-index c.node-item.result (omega arith) c.node-item.is c.loop-node.invariant.nodes).0

pub loop-node-preserved : goal.loop-node-preserved
loop-node-preserved g c =
    let nodes = c.args.nodes.now in
    let i = c.loop-node.node-index in
    let x = c.node-item.result in
    let played = c.in_ok-tell_all.ensures.ok in
    record {
      left = each_more telling_run nodes i x (omega arith) c.node-item.is c.loop-node.invariant.left played;
      nodes = up_nodes_stay (drop (i + 1) nodes) played (all_next (IsUpNode (g.C.Cluster.world c.loop-node.cluster)) nodes i x (omega arith) c.node-item.is c.loop-node.invariant.nodes).1;
    }

pub returns-in_err-tell_all-clause-err : goal.returns-in_err-tell_all-clause-err
returns-in_err-tell_all-clause-err g c =
    even_on_err c.from_residual.result
    (each_cut telling_run c.args.nodes.now c.loop-node.node-index c.node-item.result (omega arith) c.node-item.is c.loop-node.invariant.left c.in_err-tell_all.ensures.err)

pub returns-clause-ok : goal.returns-clause-ok
returns-clause-ok g c = each_done telling_run c.args.nodes.now c.loop-node.node-index (omega arith) c.loop-node.invariant.left
