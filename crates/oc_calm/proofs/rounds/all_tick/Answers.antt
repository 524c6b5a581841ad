use Rattle.std.proofs.Common.{arith, ◌+◌, drop, subst}
use Rattle.oc_model.specs.Runs.{Run, for_each}
use Rattle.oc_calm.specs.Cluster.{IsUpNode}
use Rattle.oc_calm.specs.Played.{tick_run, ticks_run}
use Rattle.oc_calm.specs.Timely.{AreTimely}
use Rattle.oc_calm.proofs.Each.{all_next, left_as, each_more, each_cut, each_done, next_timely, timely_front, timely_rest, up_nodes_stay}
use Rattle.oc_calm.proofs.RoundRuns.{ticks_are, roll_ups}
use Rattle.oc_calm.proofs.Ways.{all_left, even_on_err}
use Rattle.oc_calm.proofs.rounds.all_tick.Goals as goal

pub loop-node-init : goal.loop-node-init
loop-node-init g c =
    let w = g.C.Cluster.world c.args.cluster.now in
    let up = c.args.up.now in
    let more = c.args.more in
    record {
      left = left_as (for_each up (tick_run more)) (ticks_are more w up c.requires.up) (all_left (ticks_run more) w c.args.acts.now);
      nodes = roll_ups w up c.requires.up;
      timely = subst (λ (r : Run). AreTimely r.acts) (ticks_are more w up c.requires.up) c.requires.time;
    }

pub tick-requires-clause-node : goal.tick-requires-clause-node
tick-requires-clause-node g c =
    (all_next (IsUpNode (g.C.Cluster.world c.loop-node.cluster)) c.args.up.now c.loop-node.node-index c.node-item.result (omega arith) c.node-item.is c.loop-node.invariant.nodes).0

pub tick-requires-clause-time : goal.tick-requires-clause-time
tick-requires-clause-time g c =
    let world = g.C.Cluster.world c.loop-node.cluster in
    let up = c.args.up.now in
    let i = c.loop-node.node-index in
    timely_front (tick_run c.args.more c.node-item.result world) (for_each (drop (i + 1) up) (tick_run c.args.more))
    (next_timely (tick_run c.args.more) world up i c.node-item.result (omega arith) c.node-item.is c.loop-node.invariant.timely)

pub loop-node-preserved : goal.loop-node-preserved
loop-node-preserved g c =
    let world = g.C.Cluster.world c.loop-node.cluster in
    let up = c.args.up.now in
    let i = c.loop-node.node-index in
    let x = c.node-item.result in
    let played = c.in_ok-tick.ensures.ok in
    record {
      left = each_more (tick_run c.args.more) up i x (omega arith) c.node-item.is c.loop-node.invariant.left played;
      nodes = up_nodes_stay (drop (i + 1) up) played (all_next (IsUpNode world) up i x (omega arith) c.node-item.is c.loop-node.invariant.nodes).1;
      timely = timely_rest (for_each (drop (i + 1) up) (tick_run c.args.more)) played (next_timely (tick_run c.args.more) world up i x (omega arith) c.node-item.is c.loop-node.invariant.timely);
    }

pub returns-in_err-tick-clause-err : goal.returns-in_err-tick-clause-err
returns-in_err-tick-clause-err g c =
    even_on_err c.from_residual.result
    (each_cut (tick_run c.args.more) c.args.up.now c.loop-node.node-index c.node-item.result (omega arith) c.node-item.is c.loop-node.invariant.left c.in_err-tick.ensures.err)

pub returns-clause-ok : goal.returns-clause-ok
returns-clause-ok g c = each_done (tick_run c.args.more) c.args.up.now c.loop-node.node-index (omega arith) c.loop-node.invariant.left
