use Rattle.std.proofs.Common.{◌≡◌, ◌+◌, length, drop}
use Rattle.oc_updown.specs.TableView.{AreRowsFrom}
use Rattle.oc_state.proofs.ChildRows.{chain_among}
use Rattle.oc_state.proofs.children.chain_child.Given as goal

abbrev pub invariant-loop-place : goal.invariant-loop-place
invariant-loop-place l =
    (chain_among (drop l.place l.rows.items) l.me l.chain l.asker ≡ chain_among l.rows.items l.me l.chain l.asker)
    × AreRowsFrom (length l.rows.items) (l.place + 1) (drop l.place l.rows.items)
