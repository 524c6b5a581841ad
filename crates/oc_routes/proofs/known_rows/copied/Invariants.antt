-- The rows so far and those to come are all.
use Rattle.std.proofs.Common.{◌≡◌, ◌++◌, drop}
use Rattle.oc_routes.proofs.known_rows.copied.Given as goal

abbrev pub invariant-loop-index : goal.invariant-loop-index
invariant-loop-index l = l.copy.items ++ drop l.index l.rows.items ≡ l.rows.items
