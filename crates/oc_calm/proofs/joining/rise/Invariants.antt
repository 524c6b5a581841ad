-- The acts so far, and those that the leader may still make, are all acts.
use Rattle.std.proofs.Common.{◌-◌, ◌*◌}
use Rattle.oc_calm.specs.Cluster.{IsUpNode}
use Rattle.oc_calm.specs.CalmRuns.{rise_left, rise_run}
use Rattle.oc_calm.proofs.Ways.{IsLeft}
use Rattle.oc_calm.proofs.joining.rise.Given as goal

abbrev pub invariant-rising : goal.invariant-rising
invariant-rising g l =
    let world = g.C.Cluster.world l.cluster in
    record {
      left : IsLeft (rise_run l.leader) (g.C.Cluster.world l.fn.cluster) l.fn.acts (rise_left (2 * l.leader - l.counter) l.leader) world l.acts;
      node : IsUpNode world l.leader;
    }
