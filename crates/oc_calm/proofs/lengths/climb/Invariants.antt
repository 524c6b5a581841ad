-- The way up so far, and the known lengths.
use Rattle.oc_calm.proofs.FoundLengths.{unknown, IsClimb}
use Rattle.oc_calm.proofs.lengths.climb.Given as goal

abbrev pub invariant-up : goal.invariant-up
invariant-up g l = IsClimb (g.C.Cluster.world l.cluster) l.fn.node l.fn.lengths l.steps l.place l.lengths

abbrev pub decreases-up : goal.decreases-up
decreases-up g l = unknown l.lengths
