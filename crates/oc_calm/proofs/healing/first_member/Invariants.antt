-- The leader is among the nodes that are left.
use Rattle.std.proofs.Common.{◌≡◌, drop, filter}
use Rattle.std.specs.List.{AllByRecursion}
use Rattle.oc_model.specs.Plan.{is_member}
use Rattle.oc_model.specs.World.{node}
use Rattle.oc_model.specs.Numbers.{first_of}
use Rattle.oc_calm.specs.Cluster.{IsUpNode}
use Rattle.oc_calm.specs.CalmRuns.{leader_of}
use Rattle.oc_calm.proofs.healing.first_member.Given as goal

abbrev pub invariant-loop-node : goal.invariant-loop-node
invariant-loop-node g l =
    let w = g.C.Cluster.world l.cluster in
    record {
      same : first_of (filter (λ x. is_member (node w x).control) (drop l.node-index l.up)) ≡ leader_of w;
      nodes : AllByRecursion (IsUpNode w) (drop l.node-index l.up);
    }
