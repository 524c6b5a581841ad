-- The acts so far, and those of the rest of the nodes, are all acts.
use Rattle.std.proofs.Common.{drop}
use Rattle.std.specs.List.{AllByRecursion}
use Rattle.oc_model.specs.Runs.{for_each}
use Rattle.oc_calm.specs.Cluster.{IsUpNode}
use Rattle.oc_calm.specs.CalmRuns.{telling_run, tellings_run}
use Rattle.oc_calm.proofs.Ways.{IsLeft}
use Rattle.oc_calm.proofs.settling.each_tells.Given as goal

abbrev pub invariant-loop-node : goal.invariant-loop-node
invariant-loop-node g l =
    let world = g.C.Cluster.world l.cluster in
    record {
      left : IsLeft tellings_run (g.C.Cluster.world l.fn.cluster) l.fn.acts (for_each (drop l.node-index l.nodes) telling_run) world l.acts;
      nodes : AllByRecursion (IsUpNode world) (drop l.node-index l.nodes);
    }
