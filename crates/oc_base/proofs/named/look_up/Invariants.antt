use Rattle.std.proofs.Common.{take}
use Rattle.oc_base.proofs.Finding.{HasPassed}
use Rattle.oc_base.proofs.named.look_up.Given as goal

-- the names so far are before this one
abbrev pub invariant-loop-at : goal.invariant-loop-at
invariant-loop-at g l = HasPassed g.T.Named.name_of l.name (take l.at l.items)
