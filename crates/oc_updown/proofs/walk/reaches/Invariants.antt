use Rattle.std.proofs.Common.{◌≡◌, length, ◌-◌}
use Rattle.oc_model.specs.Table.{parent_in, reaches}
use Rattle.oc_updown.specs.TableView.{entries_of}
use Rattle.oc_updown.proofs.walk.reaches.Given as goal

abbrev pub invariant-loop : goal.invariant-loop
invariant-loop l = reaches (length l.rows.items - l.counter) (entries_of l.rows.items) l.root l.above ≡ reaches (length l.rows.items) (entries_of l.rows.items) l.root (parent_in (entries_of l.rows.items) l.fn.node)
