-- The greatest of the lengths looked at and of the rest is the greatest of all.
use Rattle.std.proofs.Common.{◌≡◌, max, drop}
use Rattle.oc_calm.specs.Longest.{greatest_length}
use Rattle.oc_calm.proofs.settling.greatest_of.Given as goal

abbrev pub invariant-loop-found : goal.invariant-loop-found
invariant-loop-found l = max l.greatest (greatest_length (drop l.found-index l.lengths)) ≡ greatest_length l.lengths
