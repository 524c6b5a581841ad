use Rattle.std.proofs.Common.{◌≤◌, length}
use Rattle.node_cases.proofs.decisions.redirects.rows_of.Given as goal

abbrev pub invariant-loop-place : goal.invariant-loop-place
invariant-loop-place l = length l.rows.items ≤ l.rows.room
