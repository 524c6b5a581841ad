-- The node that the way has come to is placed.
use Rattle.std.proofs.Common.{◌≡◌, true}
use Rattle.oc_calm.specs.Cluster.{IsNodeOf}
use Rattle.oc_calm.specs.Placed.{ArePlaced}
use Rattle.oc_calm.specs.Played.{is_placed_under}
use Rattle.oc_calm.proofs.placing.note_placed.Given as goal

abbrev pub invariant-up : goal.invariant-up
invariant-up g l =
    let w = g.C.Cluster.world l.cluster in
    record {
      node : IsNodeOf w l.place;
      placed : is_placed_under w l.fn.leader l.place ≡ true;
      known : ArePlaced w l.fn.leader l.known;
    }
