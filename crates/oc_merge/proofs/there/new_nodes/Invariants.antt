use Rattle.std.proofs.Common.{◌≡◌, ℕ, ◌-◌, Some, None, option_map, length, get_or}
use Rattle.oc_base.specs.Lawful.{IsNode}
use Rattle.oc_model.specs.Node.{new_node}
use Rattle.oc_merge.proofs.there.new_nodes.Given as goal

-- the nodes so far are new
abbrev pub invariant-loop-before : goal.invariant-loop-before
invariant-loop-before g l = (length l.folds.items ≡ l.before)
    × ((x : ℕ) → IsNode l.before x → option_map g.A.Alone.node (get_or l.folds.items (x - 1) None) ≡ Some (new_node l.records.header x))
