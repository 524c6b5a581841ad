use Rattle.std.proofs.Common.{◌≡◌, ◌+◌, length, drop}
use Rattle.oc_model.specs.Leases.{start_all}
use Rattle.oc_updown.specs.TableView.{AreRowsFrom, entries_of}
use Rattle.oc_updown.proofs.children.start_rows.Given as goal

abbrev pub invariant-loop-place : goal.invariant-loop-place
invariant-loop-place l =
    (start_all (entries_of (drop l.place l.rows.items)) l.me l.ends.items l.now ≡ start_all (entries_of l.rows.items) l.me l.fn.ends.items l.now)
    × AreRowsFrom (length l.rows.items) (l.place + 1) (drop l.place l.rows.items)
    × (l.ends.room ≡ l.fn.ends.room)
    × (length l.ends.items ≡ length l.fn.ends.items)
