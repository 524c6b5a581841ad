use Rattle.std.proofs.Common.{ℕ, ◌≤◌}
use Rattle.oc_policy.specs.Covering.{Shadows}
use Rattle.oc_policy.proofs.shadowing.shadow.Given as goal

-- no rule so far covers the one that is looked at
abbrev pub invariant-loop-before : goal.invariant-loop-before
invariant-loop-before l = (k : ℕ) → k ≤ l.before → ¬ Shadows l.rules k l.index
