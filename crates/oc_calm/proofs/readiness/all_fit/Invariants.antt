-- All nodes fit if those that are left do.
use Rattle.std.proofs.Common.{◌≡◌, ◌-◌}
use Rattle.std.specs.List.{list_all, range_with_len}
use Rattle.oc_model.specs.World.{ids}
use Rattle.oc_calm.specs.Tree.{fits_under}
use Rattle.oc_calm.proofs.readiness.all_fit.Given as goal

abbrev pub invariant-loop-number : goal.invariant-loop-number
invariant-loop-number g l =
    let w = g.C.Cluster.world l.cluster in
    list_all (fits_under w l.root) (range_with_len l.number (l.number-end - l.number)) ≡ list_all (fits_under w l.root) (ids w)
