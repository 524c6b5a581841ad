use Rattle.std.proofs.Common.{◌≡◌, ◌-◌}
use Rattle.oc_base.specs.Reading.{items_at}
use Rattle.oc_base.proofs.ItemRuns.{with_front}
use Rattle.oc_wire.specs.FieldReading.{child_at}
use Rattle.oc_wire.proofs.children.count_of_children_at.Given as goal

-- the children so far, and those that are still read, are all
abbrev pub invariant-loop : goal.invariant-loop
invariant-loop l =
    with_front l.children.items (items_at (λ before. child_at before l.nodes l.bytes) (λ child. child.id) l.before (l.count - l.counter) l.next) ≡ items_at (λ before. child_at before l.nodes l.bytes) (λ child. child.id) 0 l.count l.at
