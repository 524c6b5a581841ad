use Rattle.std.proofs.Common.{◌≡◌, length}
use Rattle.oc_updown.specs.Listing.{is_beneath, AreKnown}
use Rattle.oc_updown.specs.TableView.{entries_of}
use Rattle.oc_base.specs.Lawful.{IsNode}
use Rattle.oc_updown.proofs.listing.note_way.Given as goal

abbrev pub invariant-loop : goal.invariant-loop
invariant-loop l =
    IsNode (length l.rows.items) l.place
    × (is_beneath (entries_of l.rows.items) l.root l.place ≡ l.listed)
    × (length l.known ≡ length l.rows.items)
    × AreKnown (entries_of l.rows.items) l.root l.known
