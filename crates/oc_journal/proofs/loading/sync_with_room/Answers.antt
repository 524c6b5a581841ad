use Rattle.std.proofs.Common.{sym, ◌∙◌, arith}
use Rattle.std.proofs.lemmas.Result.{err_from_is_err_and}
use Rattle.oc_io.proofs.DiskMoments.{still_honest}
use Rattle.oc_journal.proofs.LoadRuns.{disk_not_file, memory_not_disk, memory_not_file, no_error, stays_safely, synced_safely, write_fails_after}
use Rattle.oc_journal.proofs.loading.sync_with_room.Goals as goal

pub returns-in_err-reserve-clause-room : goal.returns-in_err-reserve-clause-room
returns-in_err-reserve-clause-room g c =
    let p = err_from_is_err_and c.from_residual.result c.from_residual.ensures.1 in
    rw p.1 tt

pub returns-in_err-reserve-clause-calls : goal.returns-in_err-reserve-clause-calls
returns-in_err-reserve-clause-calls g c =
    let p = err_from_is_err_and c.from_residual.result c.from_residual.ensures.1 in
    rw p.1 tt

pub returns-in_err-reserve-clause-safe : goal.returns-in_err-reserve-clause-safe
returns-in_err-reserve-clause-safe g c =
    let p = err_from_is_err_and c.from_residual.result c.from_residual.ensures.1 in
    rw p.1 tt

pub returns-in_err-reserve-clause-no_fault : goal.returns-in_err-reserve-clause-no_fault
returns-in_err-reserve-clause-no_fault g c =
    let p = err_from_is_err_and c.from_residual.result c.from_residual.ensures.1 in
    rw p.1 tt

pub returns-in_err-reserve-clause-seen : goal.returns-in_err-reserve-clause-seen
returns-in_err-reserve-clause-seen g c = c.reserve.ensures.stays.seen

pub returns-in_err-reserve-clause-safely : goal.returns-in_err-reserve-clause-safely
returns-in_err-reserve-clause-safely g c =
    let u = g.D.Disk.view c.args.disk.now in
    let v = g.D.Disk.view c.reserve.new.self in
    stays_safely u v (λ h. g.met.D.Disk.consistent c.args.disk.now h) c.reserve.ensures.stays

pub returns-in_err-reserve-clause-not_journal : goal.returns-in_err-reserve-clause-not_journal
returns-in_err-reserve-clause-not_journal g c =
    let p = err_from_is_err_and c.from_residual.result c.from_residual.ensures.1 in
    rw (p.1, p.2) (λ is. absurd (memory_not_file is))

pub returns-in_err-reserve-clause-disk : goal.returns-in_err-reserve-clause-disk
returns-in_err-reserve-clause-disk g c =
    let p = err_from_is_err_and c.from_residual.result c.from_residual.ensures.1 in
    rw (p.1, p.2) (λ is. absurd (memory_not_disk is))

pub returns-in_err-sync-clause-room : goal.returns-in_err-sync-clause-room
returns-in_err-sync-clause-room g c =
    let p = err_from_is_err_and c.from_residual-in_err-sync.result c.from_residual-in_err-sync.ensures.1 in
    rw p.1 tt

pub returns-in_err-sync-clause-calls : goal.returns-in_err-sync-clause-calls
returns-in_err-sync-clause-calls g c =
    let p = err_from_is_err_and c.from_residual-in_err-sync.result c.from_residual-in_err-sync.ensures.1 in
    rw p.1 tt

pub returns-in_err-sync-clause-safe : goal.returns-in_err-sync-clause-safe
returns-in_err-sync-clause-safe g c =
    let p = err_from_is_err_and c.from_residual-in_err-sync.result c.from_residual-in_err-sync.ensures.1 in
    rw p.1 tt

pub returns-in_err-sync-clause-no_fault : goal.returns-in_err-sync-clause-no_fault
returns-in_err-sync-clause-no_fault g c =
    let p = err_from_is_err_and c.from_residual-in_err-sync.result c.from_residual-in_err-sync.ensures.1 in
    rw p.1 tt

pub returns-in_err-sync-clause-seen : goal.returns-in_err-sync-clause-seen
returns-in_err-sync-clause-seen g c = λ honest.
    let u = g.D.Disk.view c.args.disk.now in
    let v = g.D.Disk.view c.reserve.new.self in
    let k = still_honest u v c.reserve.ensures.stays.goes_on honest in
    c.sync.ensures.seen k ∙ c.reserve.ensures.stays.seen honest

pub returns-in_err-sync-clause-safely : goal.returns-in_err-sync-clause-safely
returns-in_err-sync-clause-safely g c =
    let u = g.D.Disk.view c.args.disk.now in
    let v = g.D.Disk.view c.reserve.new.self in
    let w = g.D.Disk.view c.sync.new.self in
    synced_safely u v w (λ h. g.met.D.Disk.consistent c.args.disk.now h) c.reserve.ensures.stays c.sync.ensures.takes.goes_on c.sync.ensures.time c.sync.ensures.images

pub returns-in_err-sync-clause-not_journal : goal.returns-in_err-sync-clause-not_journal
returns-in_err-sync-clause-not_journal g c =
    let p = err_from_is_err_and c.from_residual-in_err-sync.result c.from_residual-in_err-sync.ensures.1 in
    rw (p.1, p.2) (λ is. absurd (disk_not_file is))

pub returns-in_err-sync-clause-disk : goal.returns-in_err-sync-clause-disk
returns-in_err-sync-clause-disk g c = λ _.
    let u = g.D.Disk.view c.args.disk.now in
    let v = g.D.Disk.view c.reserve.new.self in
    let w = g.D.Disk.view c.sync.new.self in
    write_fails_after u v w 0 1 c.reserve.ensures.stays.goes_on (omega arith) (omega (arith, c.in_ok-reserve.ensures.calls)) c.in_err-sync.ensures.fails

pub returns-clause-room : goal.returns-clause-room
returns-clause-room g c = omega (arith, c.in_ok-reserve.ensures.room, c.sync.ensures.takes.room)

pub returns-clause-calls : goal.returns-clause-calls
returns-clause-calls g c = omega (arith, c.in_ok-reserve.ensures.calls, c.sync.ensures.takes.calls)

pub returns-clause-safe : goal.returns-clause-safe
returns-clause-safe g c = λ honest bytes left.
    let u = g.D.Disk.view c.args.disk.now in
    let v = g.D.Disk.view c.reserve.new.self in
    let k = still_honest u v c.reserve.ensures.stays.goes_on honest in
    c.in_ok-sync.ensures.durable k bytes left ∙ sym (c.sync.ensures.seen k)

pub returns-clause-seen : goal.returns-clause-seen
returns-clause-seen g c = λ honest.
    let u = g.D.Disk.view c.args.disk.now in
    let v = g.D.Disk.view c.reserve.new.self in
    let k = still_honest u v c.reserve.ensures.stays.goes_on honest in
    c.sync.ensures.seen k ∙ c.reserve.ensures.stays.seen honest

pub returns-clause-safely : goal.returns-clause-safely
returns-clause-safely g c =
    let u = g.D.Disk.view c.args.disk.now in
    let v = g.D.Disk.view c.reserve.new.self in
    let w = g.D.Disk.view c.sync.new.self in
    synced_safely u v w (λ h. g.met.D.Disk.consistent c.args.disk.now h) c.reserve.ensures.stays c.sync.ensures.takes.goes_on c.sync.ensures.time c.sync.ensures.images

pub returns-clause-no_fault : goal.returns-clause-no_fault
returns-clause-no_fault g c = c.in_ok-sync.ensures.no_fault ∙ c.reserve.ensures.no_fault

pub returns-clause-not_journal : goal.returns-clause-not_journal
returns-clause-not_journal g c = λ is. absurd (no_error _ _ is)

pub returns-clause-disk : goal.returns-clause-disk
returns-clause-disk g c = λ is. absurd (no_error _ _ is)
