use Rattle.std.proofs.Common.{◌≡◌, ◌↔◌, take}
use Rattle.oc_policy.proofs.same.are_same.Given as goal

abbrev pub invariant-bytes : goal.invariant-bytes
invariant-bytes l = (l.differing ≡ 0) ↔ (take l.at l.first ≡ take l.at l.second)
