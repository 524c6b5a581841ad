-- The acts so far, and the check-ins that the node will still make, are all acts.
use Rattle.std.proofs.Common.{◌-◌}
use Rattle.oc_calm.specs.Cluster.{IsUpNode}
use Rattle.oc_calm.specs.CalmRuns.{telling_left, telling_run}
use Rattle.oc_calm.proofs.Ways.{IsLeft}
use Rattle.oc_calm.proofs.settling.tell_all.Given as goal

abbrev pub invariant-telling : goal.invariant-telling
invariant-telling g l =
    let world = g.C.Cluster.world l.cluster in
    record {
      left : IsLeft (telling_run l.node) (g.C.Cluster.world l.fn.cluster) l.fn.acts (telling_left (l.most - l.counter) l.node) world l.acts;
      node : IsUpNode world l.node;
    }
