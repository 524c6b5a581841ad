-- The acts so far, and those of the rest of the nodes, are the whole round.
use Rattle.std.proofs.Common.{drop}
use Rattle.std.specs.List.{AllByRecursion}
use Rattle.oc_model.specs.Runs.{for_each}
use Rattle.oc_calm.specs.Cluster.{IsUpNode}
use Rattle.oc_calm.specs.Played.{tick_run, ticks_run}
use Rattle.oc_calm.specs.Timely.{AreTimely}
use Rattle.oc_calm.proofs.Ways.{IsLeft}
use Rattle.oc_calm.proofs.rounds.all_tick.Given as goal

abbrev pub invariant-loop-node : goal.invariant-loop-node
invariant-loop-node g l =
    let world = g.C.Cluster.world l.cluster in
    record {
      left : IsLeft (ticks_run l.more) (g.C.Cluster.world l.fn.cluster) l.fn.acts (for_each (drop l.node-index l.up) (tick_run l.more)) world l.acts;
      nodes : AllByRecursion (IsUpNode world) (drop l.node-index l.up);
      timely : AreTimely (for_each (drop l.node-index l.up) (tick_run l.more) world).acts;
    }
