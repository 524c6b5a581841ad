use Rattle.std.proofs.Common.{◌≡◌, ◌++◌, drop}
use Rattle.oc_model.specs.Snapshot.{entries}
use Rattle.oc_updown.specs.TableView.{entries_of}
use Rattle.oc_state.proofs.snapshot.push_rows.Given as goal

abbrev pub invariant-loop-place : goal.invariant-loop-place
invariant-loop-place l = l.list.items ++ entries (entries_of (drop l.place l.rows.items)) ≡ l.initial.list.items ++ entries (entries_of l.rows.items)
