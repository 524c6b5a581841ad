-- The samples so far and those to come are all.
use Rattle.std.proofs.Common.{◌≡◌, ◌++◌, drop}
use Rattle.std.specs.List.{flat_map}
use Rattle.oc_routes.specs.Metrics.{status_sample}
use Rattle.oc_routes.proofs.routes.metrics.put_statuses.Given as goal

abbrev pub invariant-loop-row : goal.invariant-loop-row
invariant-loop-row l = l.out.items ++ flat_map status_sample (drop l.row-index l.replied) ≡ l.fn.out.items ++ flat_map status_sample l.replied
