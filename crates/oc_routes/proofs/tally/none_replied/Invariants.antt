-- The statuses so far and those to come are all.
use Rattle.std.proofs.Common.{◌≡◌, ◌++◌, drop, map}
use Rattle.oc_routes.specs.Tallies.{none_replied}
use Rattle.oc_routes.specs.declared.tally.TheConstants.{STATUSES}
use Rattle.oc_routes.proofs.tally.none_replied.Given as goal

abbrev pub invariant-loop-status : goal.invariant-loop-status
invariant-loop-status l = l.made.items ++ map (λ status. record { status = status; count = 0 }) (drop l.status-index STATUSES) ≡ none_replied
