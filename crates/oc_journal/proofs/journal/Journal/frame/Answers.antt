use Rattle.std.proofs.Common.{refl}
use Rattle.std.proofs.lemmas.Result.{err_from_is_err_and}
use Rattle.oc_journal.proofs.LoadRuns.{no_error}
use Rattle.oc_journal.proofs.ReadRuns.{OnlyReads-none, NoneFailed-none}
use Rattle.oc_journal.proofs.OneRead.{disk_not_memory, memory_not_disk, OnlyReads-read, IsIndexed-read, IsIndexed-closed}
use Rattle.oc_journal.proofs.journal.Journal.frame.Goals as goal

pub returns-then-index-len-clause-body : goal.returns-then-index-len-clause-body
returns-then-index-len-clause-body g c = λ is. absurd cc

pub returns-then-index-len-clause-absent : goal.returns-then-index-len-clause-absent
returns-then-index-len-clause-absent g c = λ _. refl

pub returns-then-index-len-clause-memory : goal.returns-then-index-len-clause-memory
returns-then-index-len-clause-memory g c = λ is. absurd (no_error _ _ is)

pub returns-then-index-len-clause-disk : goal.returns-then-index-len-clause-disk
returns-then-index-len-clause-disk g c = λ is. absurd (no_error _ _ is)

pub returns-then-index-len-clause-none_failed : goal.returns-then-index-len-clause-none_failed
returns-then-index-len-clause-none_failed g c = λ _. NoneFailed-none g.D.Disk.view _

pub returns-then-index-len-clause-same : goal.returns-then-index-len-clause-same
returns-then-index-len-clause-same g c = OnlyReads-none g.D.Disk.view _

pub returns-then-index-len-clause-works : goal.returns-then-index-len-clause-works
returns-then-index-len-clause-works g c = λ _. tt

pub returns-in_err-reserve-clause-found : goal.returns-in_err-reserve-clause-found
returns-in_err-reserve-clause-found g c =
    let p = err_from_is_err_and c.from_residual.result c.from_residual.ensures.1 in
    rw p.1 tt

pub returns-in_err-reserve-clause-body : goal.returns-in_err-reserve-clause-body
returns-in_err-reserve-clause-body g c =
    let p = err_from_is_err_and c.from_residual.result c.from_residual.ensures.1 in
    rw p.1 tt

pub returns-in_err-reserve-clause-absent : goal.returns-in_err-reserve-clause-absent
returns-in_err-reserve-clause-absent g c =
    let p = err_from_is_err_and c.from_residual.result c.from_residual.ensures.1 in
    rw p.1 tt

pub returns-in_err-reserve-clause-disk : goal.returns-in_err-reserve-clause-disk
returns-in_err-reserve-clause-disk g c =
    let p = err_from_is_err_and c.from_residual.result c.from_residual.ensures.1 in
    rw (p.1, p.2) (λ is. absurd (memory_not_disk is))

pub returns-in_err-reserve-clause-none_failed : goal.returns-in_err-reserve-clause-none_failed
returns-in_err-reserve-clause-none_failed g c = λ _. NoneFailed-none g.D.Disk.view _

pub returns-in_err-reserve-clause-same : goal.returns-in_err-reserve-clause-same
returns-in_err-reserve-clause-same g c = OnlyReads-none g.D.Disk.view _

pub returns-in_err-reserve-clause-works : goal.returns-in_err-reserve-clause-works
returns-in_err-reserve-clause-works g c =
    let p = err_from_is_err_and c.from_residual.result c.from_residual.ensures.1 in
    rw (p.1, p.2) (λ _. refl)

pub returns-in_err-resize-clause-found : goal.returns-in_err-resize-clause-found
returns-in_err-resize-clause-found g c =
    let p = err_from_is_err_and c.from_residual-in_err-resize.result c.from_residual-in_err-resize.ensures.1 in
    rw p.1 tt

pub returns-in_err-resize-clause-body : goal.returns-in_err-resize-clause-body
returns-in_err-resize-clause-body g c =
    let p = err_from_is_err_and c.from_residual-in_err-resize.result c.from_residual-in_err-resize.ensures.1 in
    rw p.1 tt

pub returns-in_err-resize-clause-absent : goal.returns-in_err-resize-clause-absent
returns-in_err-resize-clause-absent g c =
    let p = err_from_is_err_and c.from_residual-in_err-resize.result c.from_residual-in_err-resize.ensures.1 in
    rw p.1 tt

pub returns-in_err-resize-clause-disk : goal.returns-in_err-resize-clause-disk
returns-in_err-resize-clause-disk g c =
    let p = err_from_is_err_and c.from_residual-in_err-resize.result c.from_residual-in_err-resize.ensures.1 in
    rw (p.1, p.2) (λ is. absurd (memory_not_disk is))

pub returns-in_err-resize-clause-none_failed : goal.returns-in_err-resize-clause-none_failed
returns-in_err-resize-clause-none_failed g c = λ _. NoneFailed-none g.D.Disk.view _

pub returns-in_err-resize-clause-same : goal.returns-in_err-resize-clause-same
returns-in_err-resize-clause-same g c = OnlyReads-none g.D.Disk.view _

pub returns-in_err-resize-clause-works : goal.returns-in_err-resize-clause-works
returns-in_err-resize-clause-works g c =
    let p = err_from_is_err_and c.from_residual-in_err-resize.result c.from_residual-in_err-resize.ensures.1 in
    rw (p.1, p.2) (λ _. refl)

pub invariant_of-self : goal.invariant_of-self
invariant_of-self g c = IsIndexed-read (g.D.Disk.view c.self.inside.disk) (g.D.Disk.view c.read_at.new.self) c.self.inside.extents.items c.self.inside.end c.self.inside.closed c.self.invariant c.read_at.ensures.stays c.read_at.ensures.size

pub invariant_of-self-in_default : goal.invariant_of-self-in_default
invariant_of-self-in_default g c = IsIndexed-closed (g.D.Disk.view c.self.inside.disk) (g.D.Disk.view c.read_at.new.self) c.self.inside.extents.items c.self.inside.end c.self.inside.closed c.self.invariant c.read_at.ensures.stays c.read_at.ensures.size

pub returns-in_default-clause-found : goal.returns-in_default-clause-found
returns-in_default-clause-found g c = tt

pub returns-in_default-clause-body : goal.returns-in_default-clause-body
returns-in_default-clause-body g c = tt

pub returns-in_default-clause-absent : goal.returns-in_default-clause-absent
returns-in_default-clause-absent g c = tt

pub returns-in_default-clause-memory : goal.returns-in_default-clause-memory
returns-in_default-clause-memory g c = λ is. absurd (disk_not_memory is)

pub returns-in_default-clause-none_failed : goal.returns-in_default-clause-none_failed
returns-in_default-clause-none_failed g c = λ other. absurd (other refl)

pub returns-in_default-clause-same : goal.returns-in_default-clause-same
returns-in_default-clause-same g c = rw (← c.self.view_is) (OnlyReads-read g.D.Disk.view c.self.inside.disk c.read_at.new.self c.self.inside.extents.items c.read_at.ensures.stays _ _ _ _)

pub returns-clause-absent : goal.returns-clause-absent
returns-clause-absent g c = λ is. absurd cc

pub returns-clause-memory : goal.returns-clause-memory
returns-clause-memory g c = λ is. absurd (no_error _ _ is)

pub returns-clause-disk : goal.returns-clause-disk
returns-clause-disk g c = λ is. absurd (no_error _ _ is)

pub returns-clause-none_failed : goal.returns-clause-none_failed
returns-clause-none_failed g c = rw (← c.self.view_is) (λ _. record { closed = refl; no_fault = c.in-Ok.ensures.no_fault })

pub returns-clause-same : goal.returns-clause-same
returns-clause-same g c = rw (← c.self.view_is) (OnlyReads-read g.D.Disk.view c.self.inside.disk c.read_at.new.self c.self.inside.extents.items c.read_at.ensures.stays _ _ _ _)

pub returns-clause-works : goal.returns-clause-works
returns-clause-works g c = λ _. tt
