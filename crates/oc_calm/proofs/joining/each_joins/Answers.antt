use Rattle.std.proofs.Common.{arith, ◌+◌, drop}
use Rattle.oc_model.specs.Runs.{for_each}
use Rattle.oc_calm.specs.Cluster.{IsNodeOf}
use Rattle.oc_calm.specs.CalmRuns.{place_run, places_run}
use Rattle.oc_calm.proofs.Each.{all_next, left_as, each_more, each_cut, each_done, node_stays, nodes_stay, numbered_stays}
use Rattle.oc_calm.proofs.HealRuns.{places_are}
use Rattle.oc_calm.proofs.Ways.{all_left, even_on_err}
use Rattle.oc_calm.proofs.joining.each_joins.Goals as goal

pub loop-node-init : goal.loop-node-init
loop-node-init g c =
    let w = g.C.Cluster.world c.args.cluster.now in
    let m = c.args.leader in
    record {
      left = left_as (for_each c.args.nodes.now (place_run m)) (places_are m w c.args.nodes.now c.requires.order) (all_left (places_run m) w c.args.acts.now);
      nodes = c.requires.nodes;
      leader = c.requires.leader;
      ids = c.requires.ids;
      known = c.requires.known;
    }

pub place-requires-clause-node : goal.place-requires-clause-node
place-requires-clause-node g c =
    (all_next (IsNodeOf (g.C.Cluster.world c.loop-node.cluster)) c.args.nodes.now c.loop-node.node-index c.node-item.result (omega arith) c.node-item.is c.loop-node.invariant.nodes).0

pub loop-node-preserved : goal.loop-node-preserved
loop-node-preserved g c =
    let nodes = c.args.nodes.now in
    let i = c.loop-node.node-index in
    let x = c.node-item.result in
    let m = c.args.leader in
    let played = c.in_ok-place.ensures.ok in
    record {
      left = each_more (place_run m) nodes i x (omega arith) c.node-item.is c.loop-node.invariant.left played;
      nodes = nodes_stay (drop (i + 1) nodes) played (all_next (IsNodeOf (g.C.Cluster.world c.loop-node.cluster)) nodes i x (omega arith) c.node-item.is c.loop-node.invariant.nodes).1;
      leader = node_stays m played c.loop-node.invariant.leader;
      ids = numbered_stays played c.loop-node.invariant.ids;
      known = c.in_ok-place.ensures.known;
    }

pub returns-in_err-place-clause-err : goal.returns-in_err-place-clause-err
returns-in_err-place-clause-err g c =
    even_on_err c.from_residual.result
    (each_cut (place_run c.args.leader) c.args.nodes.now c.loop-node.node-index c.node-item.result (omega arith) c.node-item.is c.loop-node.invariant.left c.in_err-place.ensures.err)

pub returns-clause-ok : goal.returns-clause-ok
returns-clause-ok g c = each_done (place_run c.args.leader) c.args.nodes.now c.loop-node.node-index (omega arith) c.loop-node.invariant.left
