-- The rest of the way up, and the known lengths.
use Rattle.std.proofs.Common.{◌≤◌}
use Rattle.oc_calm.specs.Cluster.{IsNodeOf}
use Rattle.oc_calm.specs.Tree.{KeepKnown}
use Rattle.oc_calm.proofs.FoundLengths.{IsLeftOf}
use Rattle.oc_calm.proofs.lengths.note_way.Given as goal

abbrev pub invariant-up : goal.invariant-up
invariant-up g l =
    let w = g.C.Cluster.world l.cluster in
    record {
      node : IsNodeOf w l.place;
      left : IsLeftOf w l.left l.place l.way.length l.lengths;
      known : KeepKnown l.fn.lengths l.lengths;
      fewer : l.left ≤ l.way.steps;
    }

abbrev pub decreases-up : goal.decreases-up
decreases-up g l = l.left
