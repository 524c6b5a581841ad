-- The children so far and those to come are all.
use Rattle.std.proofs.Common.{◌≡◌, ◌++◌, drop}
use Rattle.oc_routes.specs.Rows.{leased_among}
use Rattle.oc_routes.proofs.leased.with_ends.Given as goal

abbrev pub invariant-loop-child : goal.invariant-loop-child
invariant-loop-child l = l.made.items ++ leased_among l.ends.items (drop l.child-index l.children) ≡ leased_among l.ends.items l.children
