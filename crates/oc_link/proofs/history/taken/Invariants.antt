use Rattle.std.proofs.Common.{◌≡◌, ◌+◌, ◌≤◌, min, drop}
use Rattle.oc_link.specs.Traffic.{taken}
use Rattle.oc_link.proofs.history.taken.Given as goal

abbrev pub invariant-loop-call : goal.invariant-loop-call
invariant-loop-call l = (l.taken ≤ l.most)
    × (min (l.taken + taken l.connection (drop l.call-index l.calls)) l.most ≡ min (taken l.connection l.calls) l.most)
