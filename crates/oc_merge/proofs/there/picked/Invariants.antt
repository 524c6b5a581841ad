use Rattle.std.proofs.Common.{◌≡◌, ◌++◌, ◌≤◌, length, reverse}
use Rattle.oc_merge.specs.Recorded.{picked}
use Rattle.oc_merge.proofs.there.picked.Given as goal

-- the picked lines of those that are left, and then those picked so far, are all picked lines
abbrev pub invariant-lines : goal.invariant-lines
invariant-lines l = (length l.lines.items ≤ length l.there) × (picked l.there l.lines.items ++ reverse l.left.items ≡ picked l.there l.fn.lines.items)

abbrev pub decreases-lines : goal.decreases-lines
decreases-lines l = length l.lines.items
