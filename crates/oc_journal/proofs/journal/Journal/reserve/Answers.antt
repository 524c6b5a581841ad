use Rattle.std.proofs.Common.{refl, arith}
use Rattle.std.proofs.lemmas.Result.{err_from_is_err_and}
use Rattle.oc_io.proofs.DiskMoments.{StaysAsItWas-none}
use Rattle.oc_journal.proofs.OneRead.{OnlyReads-reserved, IsIndexed-reserved}
use Rattle.oc_journal.proofs.journal.Journal.reserve.Goals as goal

pub invariant_of-self : goal.invariant_of-self
invariant_of-self g c = IsIndexed-reserved (g.D.Disk.view c.self.inside.disk) (g.D.Disk.view c.self.inside.disk) c.self.inside.extents.items c.reserve.new.self.items c.self.inside.end c.self.inside.closed c.reserve.ensures.items c.self.invariant (StaysAsItWas-none (g.D.Disk.view c.self.inside.disk)) refl

pub returns-in_err-reserve-clause-room : goal.returns-in_err-reserve-clause-room
returns-in_err-reserve-clause-room g c =
    let p = err_from_is_err_and c.from_residual.result c.from_residual.ensures.1 in
    rw p.1 tt

pub returns-in_err-reserve-clause-same : goal.returns-in_err-reserve-clause-same
returns-in_err-reserve-clause-same g c = rw (← c.self.view_is) (OnlyReads-reserved g.D.Disk.view c.self.inside.disk c.self.inside.disk c.self.inside.extents.items c.reserve.new.self.items c.reserve.ensures.items (StaysAsItWas-none (g.D.Disk.view c.self.inside.disk)) _ _ _ _ (omega (arith, c.reserve.ensures.capacity, c.reserve.ensures.len)))

pub returns-in_err-reserve-clause-none_failed : goal.returns-in_err-reserve-clause-none_failed
returns-in_err-reserve-clause-none_failed g c = rw (← c.self.view_is) (record { closed = refl; no_fault = refl })

pub invariant_of-self-in_err-reserve-2 : goal.invariant_of-self-in_err-reserve-2
invariant_of-self-in_err-reserve-2 g c = IsIndexed-reserved (g.D.Disk.view c.self.inside.disk) (g.D.Disk.view c.reserve-2.new.self) c.self.inside.extents.items c.reserve.new.self.items c.self.inside.end c.self.inside.closed c.reserve.ensures.items c.self.invariant c.reserve-2.ensures.stays c.reserve-2.ensures.size

pub returns-in_err-reserve-2-clause-room : goal.returns-in_err-reserve-2-clause-room
returns-in_err-reserve-2-clause-room g c =
    let p = err_from_is_err_and c.from_residual-in_err-reserve-2.result c.from_residual-in_err-reserve-2.ensures.1 in
    rw p.1 tt

pub returns-in_err-reserve-2-clause-same : goal.returns-in_err-reserve-2-clause-same
returns-in_err-reserve-2-clause-same g c = rw (← c.self.view_is) (OnlyReads-reserved g.D.Disk.view c.self.inside.disk c.reserve-2.new.self c.self.inside.extents.items c.reserve.new.self.items c.reserve.ensures.items c.reserve-2.ensures.stays _ _ _ _ (omega (arith, c.reserve.ensures.capacity, c.reserve.ensures.len)))

pub returns-in_err-reserve-2-clause-none_failed : goal.returns-in_err-reserve-2-clause-none_failed
returns-in_err-reserve-2-clause-none_failed g c = rw (← c.self.view_is) (record { closed = refl; no_fault = c.reserve-2.ensures.no_fault })

pub invariant_of-self-2 : goal.invariant_of-self-2
invariant_of-self-2 g c = IsIndexed-reserved (g.D.Disk.view c.self.inside.disk) (g.D.Disk.view c.reserve-2.new.self) c.self.inside.extents.items c.reserve.new.self.items c.self.inside.end c.self.inside.closed c.reserve.ensures.items c.self.invariant c.reserve-2.ensures.stays c.reserve-2.ensures.size

pub returns-clause-same : goal.returns-clause-same
returns-clause-same g c = rw (← c.self.view_is) (OnlyReads-reserved g.D.Disk.view c.self.inside.disk c.reserve-2.new.self c.self.inside.extents.items c.reserve.new.self.items c.reserve.ensures.items c.reserve-2.ensures.stays _ _ _ _ (omega (arith, c.reserve.ensures.capacity, c.reserve.ensures.len)))

pub returns-clause-none_failed : goal.returns-clause-none_failed
returns-clause-none_failed g c = rw (← c.self.view_is) (record { closed = refl; no_fault = c.reserve-2.ensures.no_fault })
