use Rattle.std.proofs.Common.{ℕ, []}
use Rattle.oc_base.specs.Lawful.{IsNode}
use Rattle.oc_merge.specs.Heads.{AreHeads, HasWay, head_of}
use Rattle.oc_merge.proofs.heads.first_heads.Given as goal

-- the heads of the nodes so far, and how their lines can come next
abbrev pub invariant-loop-before : goal.invariant-loop-before
invariant-loop-before g l = AreHeads l.before l.records.lines [] l.heads.items
    × ((x : ℕ) → IsNode l.before x → HasWay g.N.Nodes.digest l.records (g.N.Nodes.world l.nodes) x (head_of l.heads.items x))
