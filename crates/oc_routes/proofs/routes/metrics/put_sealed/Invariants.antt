-- The samples so far and those to come are all.
use Rattle.std.proofs.Common.{◌≡◌, ◌++◌, drop}
use Rattle.oc_routes.specs.Metrics.{sealed_samples}
use Rattle.oc_routes.proofs.routes.metrics.put_sealed.Given as goal

abbrev pub invariant-loop-line : goal.invariant-loop-line
invariant-loop-line l = l.out.items ++ sealed_samples (drop l.line-index l.shelf) ≡ l.fn.out.items ++ sealed_samples l.shelf
