use Rattle.std.proofs.Common.{◌≡◌, ◌+◌, ◌++◌, length, drop}
use Rattle.oc_model.specs.Status.{listing}
use Rattle.oc_updown.specs.Listing.{AreKnown}
use Rattle.oc_updown.specs.TableView.{AreRowsFrom, entries_of}
use Rattle.oc_updown.proofs.Lines.{lines_among}
use Rattle.oc_updown.proofs.listing.push_lines.Given as goal

abbrev pub invariant-loop-place : goal.invariant-loop-place
invariant-loop-place l =
    (length l.known ≡ length l.rows.items)
    × AreKnown (entries_of l.rows.items) l.root l.known
    × AreRowsFrom (length l.rows.items) (l.place + 1) (drop l.place l.rows.items)
    × (l.lines.items ++ lines_among (entries_of l.rows.items) l.root (drop l.place l.rows.items) ≡ l.fn.lines.items ++ listing (entries_of l.rows.items) l.root)
