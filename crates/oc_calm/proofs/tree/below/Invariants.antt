-- The nodes so far are those of the way up.
use Rattle.std.proofs.Common.{◌≡◌, Some}
use Rattle.std.specs.List.{AllByRecursion}
use Rattle.oc_calm.specs.Cluster.{IsNodeOf}
use Rattle.oc_calm.specs.Tree.{above}
use Rattle.oc_calm.proofs.PlacedWays.{way_up}
use Rattle.oc_calm.proofs.tree.below.Given as goal

abbrev pub invariant-up : goal.invariant-up
invariant-up g l =
    let w = g.C.Cluster.world l.cluster in
    record {
      node : IsNodeOf w l.place;
      way : above w l.counter l.fn.node ≡ Some l.place;
      items : l.nodes.items ≡ way_up w l.counter l.fn.node;
      nodes : AllByRecursion (IsNodeOf w) l.nodes.items;
    }
