use Rattle.std.proofs.Common.{◌≡◌, ◌++◌, drop}
use Rattle.oc_merge.specs.Folds.{AreFoldsAt}
use Rattle.oc_merge.specs.Recorded.{are_there}
use Rattle.oc_merge.proofs.there.are_there.Given as goal

-- the nodes are played up to this place, and the marks so far come before the rest
abbrev pub invariant-loop-place : goal.invariant-loop-place
invariant-loop-place g l = AreFoldsAt g.A.Alone.node g.A.Alone.digest l.records l.place l.folds.items
    × (l.there.items ++ are_there g.A.Alone.digest l.records l.place (drop l.place l.records.lines) ≡ are_there g.A.Alone.digest l.records 0 l.records.lines)
