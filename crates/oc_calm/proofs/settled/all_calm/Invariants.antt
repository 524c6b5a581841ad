-- All nodes are calm if those that are left are.
use Rattle.std.proofs.Common.{◌≡◌, ◌-◌}
use Rattle.std.specs.List.{list_all, range_with_len}
use Rattle.oc_model.specs.Ready.{is_calm}
use Rattle.oc_model.specs.World.{ids}
use Rattle.oc_calm.proofs.settled.all_calm.Given as goal

abbrev pub invariant-loop-number : goal.invariant-loop-number
invariant-loop-number g l =
    let w = g.C.Cluster.world l.cluster in
    list_all (is_calm w) (range_with_len l.number (l.number-end - l.number)) ≡ list_all (is_calm w) (ids w)
