use Rattle.oc_policy.specs.Listing.{AreLines}
use Rattle.oc_policy.proofs.listing.rules_text.Given as goal

-- the lines of the rules so far
abbrev pub invariant-loop-place : goal.invariant-loop-place
invariant-loop-place l = AreLines l.rules l.place l.text.items
