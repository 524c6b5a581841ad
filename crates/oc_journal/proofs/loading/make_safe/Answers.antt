use Rattle.std.proofs.Common.{◌∙◌, arith}
use Rattle.std.proofs.lemmas.Result.{err_from_is_err_and}
use Rattle.oc_io.proofs.DiskMoments.{still_honest}
use Rattle.oc_journal.proofs.LoadRuns.{disk_not_file, no_error, read_fails_after, safe_later, same_error}
use Rattle.oc_journal.proofs.Loads.{IsSafe-stays}
use Rattle.oc_journal.proofs.ReadRuns.{LoadsSafely-reads}
use Rattle.oc_journal.proofs.loading.make_safe.Goals as goal

pub returns-in_err-sync_with_room-clause-size : goal.returns-in_err-sync_with_room-clause-size
returns-in_err-sync_with_room-clause-size g c =
    let p = err_from_is_err_and c.from_residual.result c.from_residual.ensures.1 in
    rw p.1 tt

pub returns-in_err-sync_with_room-clause-room : goal.returns-in_err-sync_with_room-clause-room
returns-in_err-sync_with_room-clause-room g c =
    let p = err_from_is_err_and c.from_residual.result c.from_residual.ensures.1 in
    rw p.1 tt

pub returns-in_err-sync_with_room-clause-calls : goal.returns-in_err-sync_with_room-clause-calls
returns-in_err-sync_with_room-clause-calls g c =
    let p = err_from_is_err_and c.from_residual.result c.from_residual.ensures.1 in
    rw p.1 tt

pub returns-in_err-sync_with_room-clause-safe : goal.returns-in_err-sync_with_room-clause-safe
returns-in_err-sync_with_room-clause-safe g c =
    let p = err_from_is_err_and c.from_residual.result c.from_residual.ensures.1 in
    rw p.1 tt

pub returns-in_err-sync_with_room-clause-no_fault : goal.returns-in_err-sync_with_room-clause-no_fault
returns-in_err-sync_with_room-clause-no_fault g c =
    let p = err_from_is_err_and c.from_residual.result c.from_residual.ensures.1 in
    rw p.1 tt

pub returns-in_err-sync_with_room-clause-seen : goal.returns-in_err-sync_with_room-clause-seen
returns-in_err-sync_with_room-clause-seen g c = c.sync_with_room.ensures.seen

pub returns-in_err-sync_with_room-clause-safely : goal.returns-in_err-sync_with_room-clause-safely
returns-in_err-sync_with_room-clause-safely g c = c.sync_with_room.ensures.safely

pub returns-in_err-sync_with_room-clause-not_journal : goal.returns-in_err-sync_with_room-clause-not_journal
returns-in_err-sync_with_room-clause-not_journal g c =
    let p = err_from_is_err_and c.from_residual.result c.from_residual.ensures.1 in
    rw (p.1, p.2) (λ is. c.in_err-sync_with_room.ensures.not_journal (same_error _ _ is))

pub returns-in_err-sync_with_room-clause-disk : goal.returns-in_err-sync_with_room-clause-disk
returns-in_err-sync_with_room-clause-disk g c =
    let p = err_from_is_err_and c.from_residual.result c.from_residual.ensures.1 in
    rw (p.1, p.2) (λ is. c.in_err-sync_with_room.ensures.disk (same_error _ _ is))

pub size_of-requires : goal.size_of-requires
size_of-requires g c =
    let u = g.D.Disk.view c.args.disk.now in
    let v = g.D.Disk.view c.sync_with_room.new.disk in
    record { safe = safe_later u v c.sync_with_room.ensures.safely.goes_on c.in_ok-sync_with_room.ensures.safe }

pub returns-in_err-size_of-clause-size : goal.returns-in_err-size_of-clause-size
returns-in_err-size_of-clause-size g c =
    let p = err_from_is_err_and c.from_residual-in_err-size_of.result c.from_residual-in_err-size_of.ensures.1 in
    rw p.1 tt

pub returns-in_err-size_of-clause-room : goal.returns-in_err-size_of-clause-room
returns-in_err-size_of-clause-room g c =
    let p = err_from_is_err_and c.from_residual-in_err-size_of.result c.from_residual-in_err-size_of.ensures.1 in
    rw p.1 tt

pub returns-in_err-size_of-clause-calls : goal.returns-in_err-size_of-clause-calls
returns-in_err-size_of-clause-calls g c =
    let p = err_from_is_err_and c.from_residual-in_err-size_of.result c.from_residual-in_err-size_of.ensures.1 in
    rw p.1 tt

pub returns-in_err-size_of-clause-safe : goal.returns-in_err-size_of-clause-safe
returns-in_err-size_of-clause-safe g c =
    let p = err_from_is_err_and c.from_residual-in_err-size_of.result c.from_residual-in_err-size_of.ensures.1 in
    rw p.1 tt

pub returns-in_err-size_of-clause-no_fault : goal.returns-in_err-size_of-clause-no_fault
returns-in_err-size_of-clause-no_fault g c =
    let p = err_from_is_err_and c.from_residual-in_err-size_of.result c.from_residual-in_err-size_of.ensures.1 in
    rw p.1 tt

pub returns-in_err-size_of-clause-seen : goal.returns-in_err-size_of-clause-seen
returns-in_err-size_of-clause-seen g c = λ honest.
    let u = g.D.Disk.view c.args.disk.now in
    let v = g.D.Disk.view c.sync_with_room.new.disk in
    let k = still_honest u v c.sync_with_room.ensures.safely.goes_on honest in
    c.size_of.ensures.stays.seen k ∙ c.sync_with_room.ensures.seen honest

pub returns-in_err-size_of-clause-safely : goal.returns-in_err-size_of-clause-safely
returns-in_err-size_of-clause-safely g c =
    let u = g.D.Disk.view c.args.disk.now in
    let v = g.D.Disk.view c.sync_with_room.new.disk in
    let w = g.D.Disk.view c.size_of.new.disk in
    LoadsSafely-reads u v w c.sync_with_room.ensures.safely (λ h. g.met.D.Disk.consistent c.sync_with_room.new.disk h) c.size_of.ensures.stays

pub returns-in_err-size_of-clause-not_journal : goal.returns-in_err-size_of-clause-not_journal
returns-in_err-size_of-clause-not_journal g c =
    let p = err_from_is_err_and c.from_residual-in_err-size_of.result c.from_residual-in_err-size_of.ensures.1 in
    rw (p.1, p.2) (λ is. absurd (disk_not_file is))

pub returns-in_err-size_of-clause-disk : goal.returns-in_err-size_of-clause-disk
returns-in_err-size_of-clause-disk g c = λ _.
    let u = g.D.Disk.view c.args.disk.now in
    let v = g.D.Disk.view c.sync_with_room.new.disk in
    let w = g.D.Disk.view c.size_of.new.disk in
    read_fails_after u v w c.sync_with_room.ensures.safely.goes_on c.in_err-size_of.ensures.fails

pub returns-clause-size : goal.returns-clause-size
returns-clause-size g c = c.in_ok-size_of.ensures.size

pub returns-clause-room : goal.returns-clause-room
returns-clause-room g c = omega (arith, c.in_ok-sync_with_room.ensures.room, c.size_of.ensures.stays.room)

pub returns-clause-calls : goal.returns-clause-calls
returns-clause-calls g c = omega (arith, c.in_ok-sync_with_room.ensures.calls, c.size_of.ensures.stays.calls)

pub returns-clause-safe : goal.returns-clause-safe
returns-clause-safe g c = λ honest.
    let u = g.D.Disk.view c.args.disk.now in
    let v = g.D.Disk.view c.sync_with_room.new.disk in
    let w = g.D.Disk.view c.size_of.new.disk in
    let k = still_honest u v c.sync_with_room.ensures.safely.goes_on honest in
    IsSafe-stays v w c.size_of.ensures.stays k (c.in_ok-sync_with_room.ensures.safe honest)

pub returns-clause-seen : goal.returns-clause-seen
returns-clause-seen g c = λ honest.
    let u = g.D.Disk.view c.args.disk.now in
    let v = g.D.Disk.view c.sync_with_room.new.disk in
    let k = still_honest u v c.sync_with_room.ensures.safely.goes_on honest in
    c.size_of.ensures.stays.seen k ∙ c.sync_with_room.ensures.seen honest

pub returns-clause-safely : goal.returns-clause-safely
returns-clause-safely g c =
    let u = g.D.Disk.view c.args.disk.now in
    let v = g.D.Disk.view c.sync_with_room.new.disk in
    let w = g.D.Disk.view c.size_of.new.disk in
    LoadsSafely-reads u v w c.sync_with_room.ensures.safely (λ h. g.met.D.Disk.consistent c.sync_with_room.new.disk h) c.size_of.ensures.stays

pub returns-clause-no_fault : goal.returns-clause-no_fault
returns-clause-no_fault g c = c.in_ok-size_of.ensures.no_fault ∙ c.in_ok-sync_with_room.ensures.no_fault

pub returns-clause-not_journal : goal.returns-clause-not_journal
returns-clause-not_journal g c = λ is. absurd (no_error _ _ is)

pub returns-clause-disk : goal.returns-clause-disk
returns-clause-disk g c = λ is. absurd (no_error _ _ is)
