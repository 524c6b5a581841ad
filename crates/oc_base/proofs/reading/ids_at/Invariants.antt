use Rattle.std.proofs.Common.{◌≡◌, ◌-◌}
use Rattle.oc_base.specs.Reading.{id_at, each_at}
use Rattle.oc_base.proofs.ItemRuns.{with_front}
use Rattle.oc_base.proofs.reading.ids_at.Given as goal

-- the ids so far, and those that are still read, are all
abbrev pub invariant-loop : goal.invariant-loop
invariant-loop l = with_front l.ids.items (each_at (id_at l.nodes l.bytes) (l.count - l.counter) l.next) ≡ each_at (id_at l.nodes l.bytes) l.count l.at
