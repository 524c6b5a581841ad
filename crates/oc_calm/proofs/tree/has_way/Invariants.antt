-- The part of the way up that was climbed.
use Rattle.std.proofs.Common.{◌≡◌, Some}
use Rattle.oc_calm.specs.Cluster.{IsNodeOf}
use Rattle.oc_calm.specs.Tree.{above}
use Rattle.oc_calm.proofs.tree.has_way.Given as goal

abbrev pub invariant-up : goal.invariant-up
invariant-up g l =
    let w = g.C.Cluster.world l.cluster in
    record {
      node : IsNodeOf w l.place;
      way : above w l.counter l.fn.node ≡ Some l.place;
    }
