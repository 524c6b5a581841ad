use Rattle.std.proofs.Common.{◌≡◌, ◌-◌}
use Rattle.oc_base.specs.Reading.{cert_at, each_at}
use Rattle.oc_base.proofs.ItemRuns.{with_front}
use Rattle.oc_wire.proofs.fields.count_of_certs_at.Given as goal

-- the certs so far, and those that are still read, are all
abbrev pub invariant-loop : goal.invariant-loop
invariant-loop l =
    with_front l.certs.items (each_at (cert_at l.nodes l.bytes) (l.count - l.counter) l.next) ≡ each_at (cert_at l.nodes l.bytes) l.count l.at
