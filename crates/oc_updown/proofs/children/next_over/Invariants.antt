use Rattle.std.proofs.Common.{◌≡◌, ◌+◌, ◌≤◌, length, drop}
use Rattle.oc_model.specs.Leases.{next_ended}
use Rattle.oc_updown.specs.TableView.{AreRowsFrom, entries_of}
use Rattle.oc_updown.proofs.children.next_over.Given as goal

abbrev pub invariant-loop-place : goal.invariant-loop-place
invariant-loop-place l =
    (next_ended (entries_of (drop l.place l.rows.items)) l.me l.ends.items l.after l.now ≡ next_ended (entries_of l.rows.items) l.me l.ends.items l.after l.now)
    × AreRowsFrom (length l.rows.items) (l.place + 1) (drop l.place l.rows.items)
    × (l.after ≤ l.place)
