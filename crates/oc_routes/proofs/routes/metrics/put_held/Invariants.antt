-- The samples so far and those to come are all.
use Rattle.std.proofs.Common.{◌≡◌, ◌++◌, drop}
use Rattle.oc_routes.specs.Metrics.{held_samples}
use Rattle.oc_routes.proofs.routes.metrics.put_held.Given as goal

abbrev pub invariant-loop-line : goal.invariant-loop-line
invariant-loop-line l = l.out.items ++ held_samples (drop l.line-index l.shelf) ≡ l.fn.out.items ++ held_samples l.shelf
