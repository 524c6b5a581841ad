use Rattle.std.proofs.Common.{◌≡◌, ◌++◌, drop, map}
use Rattle.oc_routes.specs.Rows.{marked}
use Rattle.oc_routes.proofs.rows.push_rows.Given as goal

-- the rows so far and those to come are all
abbrev pub invariant-loop-index : goal.invariant-loop-index
invariant-loop-index l =
    l.made.items ++ marked (drop l.index l.rows.items) (map (λ line. line.node) l.rest) ≡ l.fn.made.items ++ marked l.rows.items (map (λ line. line.node) l.lines)
