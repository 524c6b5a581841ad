-- The greatest node that is up is among those that are left.
use Rattle.std.proofs.Common.{◌≡◌, ◌≤◌}
use Rattle.oc_calm.specs.CalmRuns.{greatest_up}
use Rattle.oc_calm.proofs.joining.last_up.Given as goal

abbrev pub invariant-down : goal.invariant-down
invariant-down g l =
    let w = g.C.Cluster.world l.cluster in
    record {
      same : greatest_up w l.leader l.number ≡ greatest_up w l.leader l.fn.most;
      few : l.number ≤ l.fn.most;
    }

abbrev pub decreases-down : goal.decreases-down
decreases-down g l = l.number
