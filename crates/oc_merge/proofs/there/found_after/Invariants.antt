use Rattle.std.proofs.Common.{◌≡◌, ◌+◌, ◌-◌, ◌≤◌, Some, length, drop, slice_get}
use Rattle.oc_merge.specs.declared.told.ToldLine.{ToldLine}
use Rattle.oc_merge.specs.Heads.{before_own}
use Rattle.oc_merge.specs.Recorded.{found_after, own_told}
use Rattle.oc_merge.proofs.there.found_after.Given as goal

-- from the next line of its node on the same start is found
abbrev pub invariant-starts : goal.invariant-starts
invariant-starts l = (k : ToldLine) → slice_get l.lines l.place ≡ Some k
    → (l.behind ≤ length l.lines) × (before_own k.node (drop l.behind l.lines) ≡ 0)
    × (found_after (own_told k.node (drop l.behind l.lines)) ≡ found_after (own_told k.node (drop (l.place + 1) l.lines)))

abbrev pub decreases-starts : goal.decreases-starts
decreases-starts l = length l.lines - l.behind
