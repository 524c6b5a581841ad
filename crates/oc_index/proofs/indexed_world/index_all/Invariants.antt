-- The messages before this number are indexed.
use Rattle.std.proofs.Common.{◌≡◌, ◌+◌}
use Rattle.oc_index.specs.Index.{IsIndex}
use Rattle.oc_index.proofs.indexed_world.index_all.Given as goal

abbrev pub invariant-loop-number : goal.invariant-loop-number
invariant-loop-number l = IsIndex l.world.world.net l.numbers × (l.numbers.count + 1 ≡ l.number)
