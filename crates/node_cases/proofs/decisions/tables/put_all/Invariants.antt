use Rattle.std.proofs.Common.{◌≡◌}
use Rattle.node_cases.proofs.decisions.tables.put_all.Given as goal

abbrev pub invariant-loop : goal.invariant-loop
invariant-loop l = l.table.nodes ≡ l.fn.table.nodes
