-- The node that the way has come to is placed exactly where the first node is.
use Rattle.std.proofs.Common.{◌≡◌, Some}
use Rattle.oc_calm.specs.Cluster.{IsNodeOf}
use Rattle.oc_calm.specs.Played.{is_placed_under}
use Rattle.oc_calm.specs.Tree.{above}
use Rattle.oc_calm.proofs.placing.has_leased_way.Given as goal

abbrev pub invariant-up : goal.invariant-up
invariant-up g l =
    let w = g.C.Cluster.world l.cluster in
    record {
      node : IsNodeOf w l.place;
      same : is_placed_under w l.leader l.place ≡ is_placed_under w l.leader l.fn.node;
      way : above w l.counter l.fn.node ≡ Some l.place;
    }
