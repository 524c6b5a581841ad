use Rattle.std.proofs.Common.{◌≡◌, ◌++◌, drop}
use Rattle.oc_updown.specs.TableView.{entries_of}
use Rattle.oc_state.specs.Children.{told_children}
use Rattle.oc_state.proofs.children.children.Given as goal

abbrev pub invariant-loop-place : goal.invariant-loop-place
invariant-loop-place l =
    l.children.items ++ told_children (entries_of (drop l.place l.rows.items)) l.me l.rates.items ≡ told_children (entries_of l.rows.items) l.me l.rates.items
