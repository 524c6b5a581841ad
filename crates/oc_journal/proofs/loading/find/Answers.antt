use Rattle.std.proofs.Common.{◌≡◌, ◌≤◌, IsTrue, false, length, sym, ◌∙◌, ap, subst, arith}
use Rattle.std.proofs.lemmas.Result.{IfOk-weaker, err_from_is_err_and, on_ok_weaker}
use Rattle.oc_io.proofs.DiskMoments.{GoesOn-then, still_honest}
use Rattle.oc_journal.specs.JournalFile.{frames_of, header, IsNoJournal}
use Rattle.oc_journal.specs.JournalView.{at_extents, IsIndexed}
use Rattle.oc_journal.specs.Scanning.{IsFound}
use Rattle.oc_journal.proofs.Loads.{LoadsSafely-then, IsSafe-stays, IsIndexed-found, found-frames, found-journal}
use Rattle.oc_journal.proofs.LoadRuns.{IsIndexed-new, disk_not_file, frames-new, no_error, no_journal_at_start, read_fails_after, safe_later, same_error, short_at_start, short_is_journal, write_fails_after}
use Rattle.oc_journal.proofs.ReadRuns.{LoadsSafely-reads}
use Rattle.oc_journal.proofs.loading.find.Goals as goal

pub returns-in_err-write_header-clause-safely : goal.returns-in_err-write_header-clause-safely
returns-in_err-write_header-clause-safely g c =
    let u = g.D.Disk.view c.args.disk.now in
    let v = g.D.Disk.view c.make_safe.new.disk in
    let w = g.D.Disk.view c.write_header.new.disk in
    LoadsSafely-then u v w c.make_safe.ensures.safely (λ h. g.met.D.Disk.consistent c.make_safe.new.disk h) (record { goes_on = c.write_header.ensures.takes.goes_on; any_moment = c.write_header.ensures.any_moment })

pub returns-then-size-le-HEADER_LEN-clause-safely : goal.returns-then-size-le-HEADER_LEN-clause-safely
returns-then-size-le-HEADER_LEN-clause-safely g c =
    let u = g.D.Disk.view c.args.disk.now in
    let v = g.D.Disk.view c.make_safe.new.disk in
    let w = g.D.Disk.view c.write_header.new.disk in
    LoadsSafely-then u v w c.make_safe.ensures.safely (λ h. g.met.D.Disk.consistent c.make_safe.new.disk h) (record { goes_on = c.write_header.ensures.takes.goes_on; any_moment = c.write_header.ensures.any_moment })

pub returns-clause-indexed : goal.returns-clause-indexed
returns-clause-indexed g c =
    let v = g.D.Disk.view c.make_safe.new.disk in
    let m = g.D.Disk.view c.check_magic.new.disk in
    let w = g.D.Disk.view c.find_frames.new.disk in
    let read = c.check_magic.ensures.stays in
    let scanned = c.find_frames.ensures.stays in
    let u = g.D.Disk.view c.args.disk.now in
    let first = c.make_safe.ensures.safely.goes_on in
    IfOk-weaker c.find_frames.result (λ index. IsFound m index.extents.items index.end) (λ index. IsIndexed w index.extents.items index.end false)
    (λ index found. IsIndexed-found m w index.extents.items index.end found scanned.goes_on.honest c.find_frames.ensures.size scanned.seen
    (λ h. let back = subst (λ b. IsTrue b) (read.goes_on.honest ∙ first.honest) h in
    let k = still_honest u v first back in
    IsSafe-stays m w scanned h (IsSafe-stays v m read k (c.in_ok-size.ensures.safe back))))
    c.find_frames.ensures.found

pub returns-clause-frames : goal.returns-clause-frames
returns-clause-frames g c =
    let u = g.D.Disk.view c.args.disk.now in
    let v = g.D.Disk.view c.make_safe.new.disk in
    let m = g.D.Disk.view c.check_magic.new.disk in
    let w = g.D.Disk.view c.find_frames.new.disk in
    let read = c.check_magic.ensures.stays in
    let scanned = c.find_frames.ensures.stays in
    let first = c.make_safe.ensures.safely.goes_on in
    IfOk-weaker c.find_frames.result (λ index. IsFound m index.extents.items index.end) (λ index. IsTrue u.honest → at_extents w.seen index.extents.items ≡ frames_of u.seen)
    (λ index found honest. let k = still_honest u v first honest in
    let h = still_honest v m read.goes_on k in
    found-frames m w index.extents.items index.end found scanned.goes_on.honest c.find_frames.ensures.size scanned.seen (λ h. IsSafe-stays m w scanned h (IsSafe-stays v m read k (c.in_ok-size.ensures.safe honest))) h
    ∙ ap frames_of (read.seen k ∙ c.make_safe.ensures.seen honest))
    c.find_frames.ensures.found

pub returns-clause-journal : goal.returns-clause-journal
returns-clause-journal g c =
    let u = g.D.Disk.view c.args.disk.now in
    let v = g.D.Disk.view c.make_safe.new.disk in
    let m = g.D.Disk.view c.check_magic.new.disk in
    let w = g.D.Disk.view c.find_frames.new.disk in
    let read = c.check_magic.ensures.stays in
    let scanned = c.find_frames.ensures.stays in
    let first = c.make_safe.ensures.safely.goes_on in
    IfOk-weaker c.find_frames.result (λ index. IsFound m index.extents.items index.end) (λ _. IsTrue u.honest → ¬ IsNoJournal u.seen)
    (λ index found honest. let k = still_honest u v first honest in
    let h = still_honest v m read.goes_on k in
    subst (λ file. ¬ IsNoJournal file) (read.seen k ∙ c.make_safe.ensures.seen honest)
    (found-journal m w index.extents.items index.end found scanned.goes_on.honest c.find_frames.ensures.size scanned.seen (λ h. IsSafe-stays m w scanned h (IsSafe-stays v m read k (c.in_ok-size.ensures.safe honest))) h))
    c.find_frames.ensures.found

pub returns-clause-header : goal.returns-clause-header
returns-clause-header g c =
    let u = g.D.Disk.view c.args.disk.now in
    let v = g.D.Disk.view c.make_safe.new.disk in
    let m = g.D.Disk.view c.check_magic.new.disk in
    let w = g.D.Disk.view c.find_frames.new.disk in
    IfOk-weaker c.find_frames.result (λ index. IsFound m index.extents.items index.end) (λ _. IsTrue u.honest → length u.seen ≤ 9 → w.seen ≡ header)
    (λ index found honest small. let k = still_honest u v c.make_safe.ensures.safely.goes_on honest in
    let law = g.met.D.Disk.consistent c.make_safe.new.disk k in
    absurd (omega (arith, c.if-size-le-HEADER_LEN.false, c.in_ok-size.ensures.size, law.size, ap length (c.make_safe.ensures.seen honest), small)))
    c.find_frames.ensures.found

pub returns-in_err-size-clause-indexed : goal.returns-in_err-size-clause-indexed
returns-in_err-size-clause-indexed g c =
    let p = err_from_is_err_and c.from_residual.result c.from_residual.ensures.1 in
    rw p.1 tt

pub returns-in_err-size-clause-frames : goal.returns-in_err-size-clause-frames
returns-in_err-size-clause-frames g c =
    let p = err_from_is_err_and c.from_residual.result c.from_residual.ensures.1 in
    rw p.1 tt

pub returns-in_err-size-clause-header : goal.returns-in_err-size-clause-header
returns-in_err-size-clause-header g c =
    let p = err_from_is_err_and c.from_residual.result c.from_residual.ensures.1 in
    rw p.1 tt

pub returns-in_err-size-clause-journal : goal.returns-in_err-size-clause-journal
returns-in_err-size-clause-journal g c =
    let p = err_from_is_err_and c.from_residual.result c.from_residual.ensures.1 in
    rw p.1 tt

pub returns-in_err-size-clause-no_fault : goal.returns-in_err-size-clause-no_fault
returns-in_err-size-clause-no_fault g c =
    let p = err_from_is_err_and c.from_residual.result c.from_residual.ensures.1 in
    rw p.1 tt

pub returns-in_err-size-clause-safely : goal.returns-in_err-size-clause-safely
returns-in_err-size-clause-safely g c = c.make_safe.ensures.safely

pub returns-in_err-size-clause-not_journal : goal.returns-in_err-size-clause-not_journal
returns-in_err-size-clause-not_journal g c =
    let p = err_from_is_err_and c.from_residual.result c.from_residual.ensures.1 in
    rw (p.1, p.2) (λ is. absurd (c.in_err-size.ensures.not_journal (same_error _ _ is)))

pub returns-in_err-size-clause-disk : goal.returns-in_err-size-clause-disk
returns-in_err-size-clause-disk g c =
    let p = err_from_is_err_and c.from_residual.result c.from_residual.ensures.1 in
    rw (p.1, p.2) (λ is. c.in_err-size.ensures.disk (same_error _ _ is))

pub write_header-requires-clause-size : goal.write_header-requires-clause-size
write_header-requires-clause-size g c = omega (arith, c.if-size-le-HEADER_LEN.true, c.in_ok-size.ensures.size)

pub write_header-requires-clause-safe : goal.write_header-requires-clause-safe
write_header-requires-clause-safe g c =
    let u = g.D.Disk.view c.args.disk.now in
    let v = g.D.Disk.view c.make_safe.new.disk in
    safe_later u v c.make_safe.ensures.safely.goes_on c.in_ok-size.ensures.safe

pub write_header-requires-clause-room : goal.write_header-requires-clause-room
write_header-requires-clause-room g c = c.in_ok-size.ensures.room

pub write_header-requires-clause-calls : goal.write_header-requires-clause-calls
write_header-requires-clause-calls g c = c.in_ok-size.ensures.calls

pub returns-in_err-write_header-clause-indexed : goal.returns-in_err-write_header-clause-indexed
returns-in_err-write_header-clause-indexed g c =
    let p = err_from_is_err_and c.from_residual-in_err-write_header.result c.from_residual-in_err-write_header.ensures.1 in
    rw p.1 tt

pub returns-in_err-write_header-clause-frames : goal.returns-in_err-write_header-clause-frames
returns-in_err-write_header-clause-frames g c =
    let p = err_from_is_err_and c.from_residual-in_err-write_header.result c.from_residual-in_err-write_header.ensures.1 in
    rw p.1 tt

pub returns-in_err-write_header-clause-header : goal.returns-in_err-write_header-clause-header
returns-in_err-write_header-clause-header g c =
    let p = err_from_is_err_and c.from_residual-in_err-write_header.result c.from_residual-in_err-write_header.ensures.1 in
    rw p.1 tt

pub returns-in_err-write_header-clause-journal : goal.returns-in_err-write_header-clause-journal
returns-in_err-write_header-clause-journal g c =
    let p = err_from_is_err_and c.from_residual-in_err-write_header.result c.from_residual-in_err-write_header.ensures.1 in
    rw p.1 tt

pub returns-in_err-write_header-clause-no_fault : goal.returns-in_err-write_header-clause-no_fault
returns-in_err-write_header-clause-no_fault g c =
    let p = err_from_is_err_and c.from_residual-in_err-write_header.result c.from_residual-in_err-write_header.ensures.1 in
    rw p.1 tt

pub returns-in_err-write_header-clause-not_journal : goal.returns-in_err-write_header-clause-not_journal
returns-in_err-write_header-clause-not_journal g c =
    let p = err_from_is_err_and c.from_residual-in_err-write_header.result c.from_residual-in_err-write_header.ensures.1 in
    rw (p.1, p.2) (λ is. absurd (disk_not_file is))

pub returns-in_err-write_header-clause-disk : goal.returns-in_err-write_header-clause-disk
returns-in_err-write_header-clause-disk g c =
    let u = g.D.Disk.view c.args.disk.now in
    let v = g.D.Disk.view c.make_safe.new.disk in
    let w = g.D.Disk.view c.write_header.new.disk in
    λ _. write_fails_after u v w 9 2 c.make_safe.ensures.safely.goes_on c.in_ok-size.ensures.room c.in_ok-size.ensures.calls c.in_err-write_header.ensures.fails

pub returns-then-size-le-HEADER_LEN-clause-indexed : goal.returns-then-size-le-HEADER_LEN-clause-indexed
returns-then-size-le-HEADER_LEN-clause-indexed g c =
    let u = g.D.Disk.view c.args.disk.now in
    let v = g.D.Disk.view c.make_safe.new.disk in
    let w = g.D.Disk.view c.write_header.new.disk in
    IsIndexed-new u v w c.new.result.items c.new.ensures.items c.write_header.ensures.takes.goes_on.honest c.in_ok-write_header.ensures.size c.in_ok-write_header.ensures.begins.settled c.in_ok-write_header.ensures.begins.none

pub returns-then-size-le-HEADER_LEN-clause-frames : goal.returns-then-size-le-HEADER_LEN-clause-frames
returns-then-size-le-HEADER_LEN-clause-frames g c = λ honest.
    let u = g.D.Disk.view c.args.disk.now in
    let v = g.D.Disk.view c.make_safe.new.disk in
    let w = g.D.Disk.view c.write_header.new.disk in
    let first = c.make_safe.ensures.safely.goes_on in
    let law = g.met.D.Disk.consistent c.make_safe.new.disk (still_honest u v first honest) in
    frames-new u v w c.new.result.items c.new.ensures.items (short_at_start u v c.in_ok-size.size c.in_ok-size.ensures.size (c.make_safe.ensures.seen honest) law (omega (arith, c.if-size-le-HEADER_LEN.true)))

pub returns-then-size-le-HEADER_LEN-clause-header : goal.returns-then-size-le-HEADER_LEN-clause-header
returns-then-size-le-HEADER_LEN-clause-header g c = λ honest _.
    let u = g.D.Disk.view c.args.disk.now in
    let v = g.D.Disk.view c.make_safe.new.disk in
    let first = c.make_safe.ensures.safely.goes_on in
    c.in_ok-write_header.ensures.begins.seen (still_honest u v first honest)

pub returns-then-size-le-HEADER_LEN-clause-journal : goal.returns-then-size-le-HEADER_LEN-clause-journal
returns-then-size-le-HEADER_LEN-clause-journal g c = λ honest.
    let u = g.D.Disk.view c.args.disk.now in
    let v = g.D.Disk.view c.make_safe.new.disk in
    let first = c.make_safe.ensures.safely.goes_on in
    let law = g.met.D.Disk.consistent c.make_safe.new.disk (still_honest u v first honest) in
    short_is_journal u.seen (short_at_start u v c.in_ok-size.size c.in_ok-size.ensures.size (c.make_safe.ensures.seen honest) law (omega (arith, c.if-size-le-HEADER_LEN.true)))

pub returns-then-size-le-HEADER_LEN-clause-no_fault : goal.returns-then-size-le-HEADER_LEN-clause-no_fault
returns-then-size-le-HEADER_LEN-clause-no_fault g c = c.in_ok-write_header.ensures.begins.no_fault ∙ c.in_ok-size.ensures.no_fault

pub returns-then-size-le-HEADER_LEN-clause-not_journal : goal.returns-then-size-le-HEADER_LEN-clause-not_journal
returns-then-size-le-HEADER_LEN-clause-not_journal g c = λ is. absurd (no_error _ _ is)

pub returns-then-size-le-HEADER_LEN-clause-disk : goal.returns-then-size-le-HEADER_LEN-clause-disk
returns-then-size-le-HEADER_LEN-clause-disk g c = λ is. absurd (no_error _ _ is)

pub check_magic-requires-clause-safe : goal.check_magic-requires-clause-safe
check_magic-requires-clause-safe g c =
    let u = g.D.Disk.view c.args.disk.now in
    let v = g.D.Disk.view c.make_safe.new.disk in
    safe_later u v c.make_safe.ensures.safely.goes_on c.in_ok-size.ensures.safe

pub check_magic-requires-clause-long : goal.check_magic-requires-clause-long
check_magic-requires-clause-long g c = omega (arith, c.if-size-le-HEADER_LEN.false, c.in_ok-size.ensures.size)

pub returns-in_err-check_magic-clause-indexed : goal.returns-in_err-check_magic-clause-indexed
returns-in_err-check_magic-clause-indexed g c =
    let p = err_from_is_err_and c.from_residual-in_err-check_magic.result c.from_residual-in_err-check_magic.ensures.1 in
    rw p.1 tt

pub returns-in_err-check_magic-clause-frames : goal.returns-in_err-check_magic-clause-frames
returns-in_err-check_magic-clause-frames g c =
    let p = err_from_is_err_and c.from_residual-in_err-check_magic.result c.from_residual-in_err-check_magic.ensures.1 in
    rw p.1 tt

pub returns-in_err-check_magic-clause-header : goal.returns-in_err-check_magic-clause-header
returns-in_err-check_magic-clause-header g c =
    let p = err_from_is_err_and c.from_residual-in_err-check_magic.result c.from_residual-in_err-check_magic.ensures.1 in
    rw p.1 tt

pub returns-in_err-check_magic-clause-journal : goal.returns-in_err-check_magic-clause-journal
returns-in_err-check_magic-clause-journal g c =
    let p = err_from_is_err_and c.from_residual-in_err-check_magic.result c.from_residual-in_err-check_magic.ensures.1 in
    rw p.1 tt

pub returns-in_err-check_magic-clause-no_fault : goal.returns-in_err-check_magic-clause-no_fault
returns-in_err-check_magic-clause-no_fault g c =
    let p = err_from_is_err_and c.from_residual-in_err-check_magic.result c.from_residual-in_err-check_magic.ensures.1 in
    rw p.1 tt

pub returns-in_err-check_magic-clause-safely : goal.returns-in_err-check_magic-clause-safely
returns-in_err-check_magic-clause-safely g c =
    let u = g.D.Disk.view c.args.disk.now in
    let v = g.D.Disk.view c.make_safe.new.disk in
    let m = g.D.Disk.view c.check_magic.new.disk in
    LoadsSafely-reads u v m c.make_safe.ensures.safely (λ h. g.met.D.Disk.consistent c.make_safe.new.disk h) c.check_magic.ensures.stays

pub returns-in_err-check_magic-clause-not_journal : goal.returns-in_err-check_magic-clause-not_journal
returns-in_err-check_magic-clause-not_journal g c =
    let u = g.D.Disk.view c.args.disk.now in
    let v = g.D.Disk.view c.make_safe.new.disk in
    let first = c.make_safe.ensures.safely.goes_on in
    let p = err_from_is_err_and c.from_residual-in_err-check_magic.result c.from_residual-in_err-check_magic.ensures.1 in
    rw (p.1, p.2) (λ is honest.
    let law = g.met.D.Disk.consistent c.make_safe.new.disk (still_honest u v first honest) in
    no_journal_at_start u v c.in_ok-size.size c.in_ok-size.ensures.size (c.make_safe.ensures.seen honest) law (λ short. omega (arith, short, c.if-size-le-HEADER_LEN.false))
    (c.in_err-check_magic.ensures.not_journal (same_error _ _ is) (still_honest u v first honest)))

pub returns-in_err-check_magic-clause-disk : goal.returns-in_err-check_magic-clause-disk
returns-in_err-check_magic-clause-disk g c =
    let u = g.D.Disk.view c.args.disk.now in
    let v = g.D.Disk.view c.make_safe.new.disk in
    let m = g.D.Disk.view c.check_magic.new.disk in
    let p = err_from_is_err_and c.from_residual-in_err-check_magic.result c.from_residual-in_err-check_magic.ensures.1 in
    rw (p.1, p.2) (λ is. read_fails_after u v m c.make_safe.ensures.safely.goes_on (c.in_err-check_magic.ensures.disk (same_error _ _ is)))

pub find_frames-requires-clause-safe : goal.find_frames-requires-clause-safe
find_frames-requires-clause-safe g c = λ h.
    let u = g.D.Disk.view c.args.disk.now in
    let v = g.D.Disk.view c.make_safe.new.disk in
    let m = g.D.Disk.view c.check_magic.new.disk in
    let read = c.check_magic.ensures.stays in
    let k = subst (λ b. IsTrue b) read.goes_on.honest h in
    IsSafe-stays v m read k (safe_later u v c.make_safe.ensures.safely.goes_on c.in_ok-size.ensures.safe k)

pub find_frames-requires-clause-size : goal.find_frames-requires-clause-size
find_frames-requires-clause-size g c = c.in_ok-size.ensures.size ∙ sym c.check_magic.ensures.size

pub find_frames-requires-clause-long : goal.find_frames-requires-clause-long
find_frames-requires-clause-long g c = omega (arith, c.if-size-le-HEADER_LEN.false)

pub find_frames-requires-clause-magic : goal.find_frames-requires-clause-magic
find_frames-requires-clause-magic g c = λ h.
    let read = c.check_magic.ensures.stays in
    let k = subst (λ b. IsTrue b) read.goes_on.honest h in
    rw (read.seen k) (c.in_ok-check_magic.ensures.magic k)

pub returns-clause-safely : goal.returns-clause-safely
returns-clause-safely g c =
    let u = g.D.Disk.view c.args.disk.now in
    let v = g.D.Disk.view c.make_safe.new.disk in
    let m = g.D.Disk.view c.check_magic.new.disk in
    let w = g.D.Disk.view c.find_frames.new.disk in
    LoadsSafely-reads u m w (LoadsSafely-reads u v m c.make_safe.ensures.safely (λ h. g.met.D.Disk.consistent c.make_safe.new.disk h) c.check_magic.ensures.stays) (λ h. g.met.D.Disk.consistent c.check_magic.new.disk h) c.find_frames.ensures.stays

pub returns-clause-no_fault : goal.returns-clause-no_fault
returns-clause-no_fault g c = on_ok_weaker c.find_frames.result (λ none. none ∙ (c.in_ok-check_magic.ensures.no_fault ∙ c.in_ok-size.ensures.no_fault)) c.find_frames.ensures.no_fault

pub returns-clause-not_journal : goal.returns-clause-not_journal
returns-clause-not_journal g c = λ is honest.
    let u = g.D.Disk.view c.args.disk.now in
    let v = g.D.Disk.view c.make_safe.new.disk in
    let m = g.D.Disk.view c.check_magic.new.disk in
    let read = c.check_magic.ensures.stays in
    let k = still_honest u v c.make_safe.ensures.safely.goes_on honest in
    subst IsNoJournal (read.seen k ∙ c.make_safe.ensures.seen honest) (c.find_frames.ensures.not_journal is (still_honest v m read.goes_on k))

pub returns-clause-disk : goal.returns-clause-disk
returns-clause-disk g c = λ is.
    let u = g.D.Disk.view c.args.disk.now in
    let v = g.D.Disk.view c.make_safe.new.disk in
    let m = g.D.Disk.view c.check_magic.new.disk in
    let w = g.D.Disk.view c.find_frames.new.disk in
    read_fails_after u m w (GoesOn-then u v m c.make_safe.ensures.safely.goes_on c.check_magic.ensures.stays.goes_on) (c.find_frames.ensures.disk is)
