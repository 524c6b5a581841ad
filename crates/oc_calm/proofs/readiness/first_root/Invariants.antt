-- The first root is among the nodes that are left.
use Rattle.std.proofs.Common.{◌≡◌, ◌-◌, find}
use Rattle.std.specs.List.{range_with_len}
use Rattle.oc_model.specs.Ready.{is_root}
use Rattle.oc_model.specs.World.{ids}
use Rattle.oc_calm.proofs.readiness.first_root.Given as goal

abbrev pub invariant-loop-number : goal.invariant-loop-number
invariant-loop-number g l =
    let w = g.C.Cluster.world l.cluster in
    find (is_root w) (range_with_len l.number (l.number-end - l.number)) ≡ find (is_root w) (ids w)
