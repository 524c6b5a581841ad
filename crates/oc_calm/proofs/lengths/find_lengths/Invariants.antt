-- The known lengths are right, and each node that was looked at has one.
use Rattle.std.proofs.Common.{ℕ, ◌<◌, ◌≤◌}
use Rattle.oc_calm.specs.Tree.{AreFound, IsKnown}
use Rattle.oc_calm.proofs.lengths.find_lengths.Given as goal

abbrev pub invariant-loop-number : goal.invariant-loop-number
invariant-loop-number g l = record {
  found : AreFound (g.C.Cluster.world l.cluster) l.lengths;
  known : (y : ℕ) → 1 ≤ y → y < l.number → IsKnown l.lengths y;
}
