-- The acts so far, and those of the rest of the nodes, are all acts.
use Rattle.std.proofs.Common.{drop}
use Rattle.std.specs.List.{AllByRecursion}
use Rattle.oc_model.specs.Runs.{for_each}
use Rattle.oc_calm.specs.Cluster.{IsNodeOf, IsNumbered}
use Rattle.oc_calm.specs.Placed.{ArePlaced}
use Rattle.oc_calm.specs.CalmRuns.{place_run, places_run}
use Rattle.oc_calm.proofs.Ways.{IsLeft}
use Rattle.oc_calm.proofs.joining.each_joins.Given as goal

abbrev pub invariant-loop-node : goal.invariant-loop-node
invariant-loop-node g l =
    let world = g.C.Cluster.world l.cluster in
    record {
      left : IsLeft (places_run l.leader) (g.C.Cluster.world l.fn.cluster) l.fn.acts (for_each (drop l.node-index l.nodes) (place_run l.leader)) world l.acts;
      nodes : AllByRecursion (IsNodeOf world) (drop l.node-index l.nodes);
      leader : IsNodeOf world l.leader;
      ids : IsNumbered world;
      known : ArePlaced world l.leader l.known;
    }
