-- All leases are current if those of the remaining nodes are; once a node was looked at, no lease is of a stranger.
use Rattle.std.proofs.Common.{◌≡◌, ◌-◌, ◌<◌}
use Rattle.std.specs.List.{list_all, range_with_len}
use Rattle.oc_model.specs.World.{ids}
use Rattle.oc_calm.specs.Cluster.{HasNoStranger}
use Rattle.oc_calm.proofs.Currents.{current_at}
use Rattle.oc_calm.proofs.settled.holds_current.Given as goal

abbrev pub invariant-loop-number : goal.invariant-loop-number
invariant-loop-number g l =
    let w = g.C.Cluster.world l.cluster in
    record {
      same : list_all (current_at w l.node) (range_with_len l.number (l.number-end - l.number)) ≡ list_all (current_at w l.node) (ids w);
      strangers : 1 < l.number → HasNoStranger w l.node;
    }
