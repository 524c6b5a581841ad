-- All have room if those that are left have.
use Rattle.std.proofs.Common.{◌≡◌, drop}
use Rattle.std.specs.List.{AllByRecursion, list_all}
use Rattle.oc_calm.specs.Cluster.{IsUpNode}
use Rattle.oc_calm.specs.CalmRuns.{room_of}
use Rattle.oc_calm.proofs.healing.all_have_room.Given as goal

abbrev pub invariant-loop-node : goal.invariant-loop-node
invariant-loop-node g l =
    let w = g.C.Cluster.world l.cluster in
    record {
      same : list_all (room_of w) (drop l.node-index l.nodes) ≡ list_all (room_of w) l.nodes;
      nodes : AllByRecursion (IsUpNode w) (drop l.node-index l.nodes);
    }
