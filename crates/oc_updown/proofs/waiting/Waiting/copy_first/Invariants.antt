use Rattle.std.proofs.Common.{◌≡◌, ◌+◌, ◌-◌, ◌≤◌, ◌++◌, take, vec_len, vec_capacity}
use Rattle.oc_updown.proofs.waiting.Waiting.copy_first.Given as goal

abbrev pub invariant-loop-index : goal.invariant-loop-index
invariant-loop-index l = (l.into.items ≡ l.fn.into.items ++ take l.index l.self.certs) × (vec_len l.into + (l.fn.count - l.index) ≤ vec_capacity l.into)
