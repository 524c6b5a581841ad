use Rattle.std.proofs.Common.{◌≡◌, ◌+◌, ◌++◌, length, drop}
use Rattle.oc_updown.specs.TableView.{AreRowsFrom, entries_of}
use Rattle.oc_updown.proofs.waiting.Waiting.push_rows.Given as goal

abbrev pub invariant-loop-place : goal.invariant-loop-place
invariant-loop-place l =
    (l.self.certs ++ entries_of (drop l.place l.rows.items) ≡ l.fn.self.certs ++ entries_of l.rows.items)
    × AreRowsFrom (length l.rows.items) (l.place + 1) (drop l.place l.rows.items)
    × (l.self.room ≡ l.fn.self.room)
    × (l.self.nodes ≡ l.fn.self.nodes)
