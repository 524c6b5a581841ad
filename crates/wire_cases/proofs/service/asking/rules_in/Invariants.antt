use Rattle.std.proofs.Common.{◌≤◌, length}
use Rattle.wire_cases.proofs.service.asking.rules_in.Given as goal

abbrev pub invariant-loop : goal.invariant-loop
invariant-loop l = length l.rules.items ≤ l.counter
