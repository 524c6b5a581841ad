use Rattle.std.proofs.Common.{◌≡◌, ◌-◌, None, Some}
use Rattle.oc_base.specs.Reading.{items_at}
use Rattle.oc_base.proofs.ItemRuns.{with_front}
use Rattle.oc_wire.specs.FieldReading.{line_at}
use Rattle.oc_wire.proofs.fields.count_of_lines_at.Given as goal

-- the lines so far, and those that are still read, are all
abbrev pub invariant-loop : goal.invariant-loop
invariant-loop l =
    with_front l.lines.items (items_at (λ before. line_at before l.bytes) (λ line. Some line.group) l.before (l.count - l.counter) l.next) ≡ items_at (λ before. line_at before l.bytes) (λ line. Some line.group) None l.count l.at
