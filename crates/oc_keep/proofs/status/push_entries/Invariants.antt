use Rattle.std.proofs.Common.{◌≡◌, ◌++◌, drop}
use Rattle.oc_updown.specs.TableView.{entries_of}
use Rattle.oc_keep.proofs.status.push_entries.Given as goal

-- the certificates so far, and those of the rest, are all certificates
abbrev pub invariant-loop-place : goal.invariant-loop-place
invariant-loop-place l = l.list.items ++ entries_of (drop l.place l.rows.items) ≡ l.initial.list.items ++ entries_of l.rows.items
