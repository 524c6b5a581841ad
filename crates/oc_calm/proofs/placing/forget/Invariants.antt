-- No passed entry is known.
use Rattle.std.proofs.Common.{◌≡◌, ℕ, ◌<◌, false, get_or}
use Rattle.oc_calm.proofs.placing.forget.Given as goal

abbrev pub invariant-loop-placed : goal.invariant-loop-placed
invariant-loop-placed l = (k : ℕ) → k < l.placed-index → get_or l.known k false ≡ false
