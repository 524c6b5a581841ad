use Rattle.std.proofs.Common.{length, ◌-◌}
use Rattle.oc_updown.specs.TableView.{entries_of}
use Rattle.oc_base.specs.Lawful.{IsNode}
use Rattle.oc_updown.proofs.Climbs.{IsClimb}
use Rattle.oc_updown.proofs.listing.climb.Given as goal

abbrev pub invariant-loop : goal.invariant-loop
invariant-loop l = IsNode (length l.rows.items) l.place × IsClimb (entries_of l.rows.items) l.root (length l.rows.items - l.counter) l.fn.node l.place l.post.node
