use Rattle.std.proofs.Common.{◌≡◌, ℕ, ◌<◌, IsTrue, List, [], length, get_or, ap, subst, ◌∙◌, arith, rules}
use Rattle.std.proofs.lemmas.Result.{err_from_is_err_and}
use Rattle.oc_io.proofs.DiskMoments.{still_honest}
use Rattle.oc_content.specs.ContentFile.{IsFirstBad}
use Rattle.oc_content.proofs.Loading.{IsIndexedTo-start, IsSized-to, IsIndexedTo-more, IsFirstBad-at, IsIndexed-all}
use Rattle.oc_content.proofs.LoadErrors.{bad_not_disk, bad_not_journal, memory_not_bad, memory_not_disk, memory_not_journal, unread_disk, unread_not_bad, unread_not_journal}
use Rattle.oc_journal.proofs.LoadRuns.{no_error}
use Rattle.oc_journal.proofs.ReadRuns.{ClosesByRead-then, OnlyReads-none, OnlyReads-then, NoneFailed-none, NoneFailed-then}
use Rattle.oc_content.proofs.indexing.index_frames.Goals as goal

pub loop-number-init : goal.loop-number-init
loop-number-init g c =
    let e = c.new-index.ensures in
    record {
      indexed = IsIndexedTo-start g.D.Disk.view c.args.journal.now c.new-index.result e.lines e.tracks;
      same = OnlyReads-none g.D.Disk.view c.args.journal.now;
      none_failed = NoneFailed-none g.D.Disk.view c.args.journal.now;
    }

pub take-requires : goal.take-requires
take-requires g c =
    IsSized-to g.D.Disk.view c.args.journal.now c.loop-number.index c.loop-number.number c.loop-number.invariant.indexed

pub returns-then-not-branch-clause-bad : goal.returns-then-not-branch-clause-bad
returns-then-not-branch-clause-bad g c = λ i is honest.
    let view = g.D.Disk.view in
    let start = c.args.journal.now in
    let before = c.loop-number.journal in
    let so_far = c.loop-number.invariant in
    let n = c.loop-number.number in
    let number : n ≡ i = cc in
    let within : n < length start.frames = omega (arith, c.loop-number-test.true, c.count-number-end.ensures.count) in
    let there : n < length before.frames = omega (arith, within, so_far.same.count) in
    let h = still_honest (view start.disk) (view before.disk) so_far.same.disk.goes_on honest in
    let body : c.deref.result.now ≡ get_or start.frames n [] =
    c.deref.ensures.value ∙ (c.in_ok-frame.ensures.body (c.in_ok-frame.ensures.found.1 there) h ∙ ap (λ (fs : List (List ℕ)). get_or fs n []) (so_far.same.frames honest)) in
    subst (λ (k : ℕ). IsFirstBad start.frames k) number
    (IsFirstBad-at view start c.loop-number.index n c.deref.result.now within body (λ bodies groups b is number. rw c.if-not-branch.true at (c.in_ok-take.ensures bodies groups b is number)) so_far.indexed honest)

pub loop-number-preserved : goal.loop-number-preserved
loop-number-preserved g c =
    let view = g.D.Disk.view in
    let start = c.args.journal.now in
    let before = c.loop-number.journal in
    let so_far = c.loop-number.invariant in
    let n = c.loop-number.number in
    let within : n < length start.frames = omega (arith, c.loop-number-test.true, c.count-number-end.ensures.count) in
    let there : n < length before.frames = omega (arith, within, so_far.same.count) in
    let reads = λ (honest : IsTrue (view start.disk).honest).
    let h = still_honest (view start.disk) (view before.disk) so_far.same.disk.goes_on honest in
    c.deref.ensures.value ∙ (c.in_ok-frame.ensures.body (c.in_ok-frame.ensures.found.1 there) h ∙ ap (λ (fs : List (List ℕ)). get_or fs n []) (so_far.same.frames honest)) in
    record {
      indexed = IsIndexedTo-more view start c.loop-number.index c.take.new.self n c.deref.result.now within reads (λ bodies groups b is number. rw c.if-not-branch.false at (c.in_ok-take.ensures bodies groups b is number)) so_far.indexed;
      none_failed = NoneFailed-then view start before c.frame.new.self so_far.none_failed (c.in_ok-frame.ensures.none_failed (search rules));
      same = OnlyReads-then view start before c.frame.new.self (λ h. g.met.D.Disk.consistent start.disk h) so_far.same c.in_ok-frame.ensures.same;
    }

pub returns-clause-indexed : goal.returns-clause-indexed
returns-clause-indexed g c =
    let so_far = c.loop-number.invariant in
    IsIndexed-all g.D.Disk.view c.args.journal.now c.loop-number.journal c.loop-number.index c.loop-number.number (omega (arith, c.loop-number-test.false, c.count-number-end.ensures.count)) so_far.same so_far.indexed

pub returns-in_err-frame-clause-indexed : goal.returns-in_err-frame-clause-indexed
returns-in_err-frame-clause-indexed g c =
    let p = err_from_is_err_and c.from_residual.result c.from_residual.ensures.1 in
    rw p.1 tt

pub returns-in_err-frame-clause-none_failed : goal.returns-in_err-frame-clause-none_failed
returns-in_err-frame-clause-none_failed g c =
    let p = err_from_is_err_and c.from_residual.result c.from_residual.ensures.1 in
    rw p.1 tt

pub returns-in_err-frame-clause-bad : goal.returns-in_err-frame-clause-bad
returns-in_err-frame-clause-bad g c =
    let p = err_from_is_err_and c.from_residual.result c.from_residual.ensures.1 in
    rw (p.1, p.2) (λ i is. absurd (unread_not_bad c.in_err-frame.field-0.0 i is))

pub returns-in_err-frame-clause-disk : goal.returns-in_err-frame-clause-disk
returns-in_err-frame-clause-disk g c =
    let p = err_from_is_err_and c.from_residual.result c.from_residual.ensures.1 in
    rw (p.1, p.2) (λ is. ClosesByRead-then g.D.Disk.view c.args.journal.now c.loop-number.journal c.frame.new.self c.loop-number.invariant.same (c.in_err-frame.ensures.disk (unread_disk c.in_err-frame.field-0.0 is)))

pub returns-in_err-frame-clause-journal : goal.returns-in_err-frame-clause-journal
returns-in_err-frame-clause-journal g c =
    let p = err_from_is_err_and c.from_residual.result c.from_residual.ensures.1 in
    rw (p.1, p.2) (λ is. absurd (unread_not_journal c.in_err-frame.field-0.0 is))

pub returns-in_err-take-clause-indexed : goal.returns-in_err-take-clause-indexed
returns-in_err-take-clause-indexed g c =
    let p = err_from_is_err_and c.from_residual-in_err-take.result c.from_residual-in_err-take.ensures.1 in
    rw p.1 tt

pub returns-in_err-take-clause-none_failed : goal.returns-in_err-take-clause-none_failed
returns-in_err-take-clause-none_failed g c =
    let p = err_from_is_err_and c.from_residual-in_err-take.result c.from_residual-in_err-take.ensures.1 in
    rw p.1 tt

pub returns-in_err-take-clause-bad : goal.returns-in_err-take-clause-bad
returns-in_err-take-clause-bad g c =
    let p = err_from_is_err_and c.from_residual-in_err-take.result c.from_residual-in_err-take.ensures.1 in
    rw (p.1, p.2) (λ i is. absurd (memory_not_bad i is))

pub returns-in_err-take-clause-disk : goal.returns-in_err-take-clause-disk
returns-in_err-take-clause-disk g c =
    let p = err_from_is_err_and c.from_residual-in_err-take.result c.from_residual-in_err-take.ensures.1 in
    rw (p.1, p.2) (λ is. absurd (memory_not_disk is))

pub returns-in_err-take-clause-journal : goal.returns-in_err-take-clause-journal
returns-in_err-take-clause-journal g c =
    let p = err_from_is_err_and c.from_residual-in_err-take.result c.from_residual-in_err-take.ensures.1 in
    rw (p.1, p.2) (λ is. absurd (memory_not_journal is))

pub returns-in_err-frame-clause-same : goal.returns-in_err-frame-clause-same
returns-in_err-frame-clause-same g c =
    OnlyReads-then g.D.Disk.view c.args.journal.now c.loop-number.journal c.frame.new.self (λ h. g.met.D.Disk.consistent c.args.journal.now.disk h) c.loop-number.invariant.same c.in_err-frame.ensures.same

pub returns-in_err-take-clause-same : goal.returns-in_err-take-clause-same
returns-in_err-take-clause-same g c =
    OnlyReads-then g.D.Disk.view c.args.journal.now c.loop-number.journal c.frame.new.self (λ h. g.met.D.Disk.consistent c.args.journal.now.disk h) c.loop-number.invariant.same c.in_ok-frame.ensures.same

pub returns-then-not-branch-clause-same : goal.returns-then-not-branch-clause-same
returns-then-not-branch-clause-same g c =
    OnlyReads-then g.D.Disk.view c.args.journal.now c.loop-number.journal c.frame.new.self (λ h. g.met.D.Disk.consistent c.args.journal.now.disk h) c.loop-number.invariant.same c.in_ok-frame.ensures.same

pub returns-then-not-branch-clause-indexed : goal.returns-then-not-branch-clause-indexed
returns-then-not-branch-clause-indexed g c = tt

pub returns-then-not-branch-clause-none_failed : goal.returns-then-not-branch-clause-none_failed
returns-then-not-branch-clause-none_failed g c = tt

pub returns-then-not-branch-clause-disk : goal.returns-then-not-branch-clause-disk
returns-then-not-branch-clause-disk g c = λ is. absurd (bad_not_disk c.loop-number.number is)

pub returns-then-not-branch-clause-journal : goal.returns-then-not-branch-clause-journal
returns-then-not-branch-clause-journal g c = λ is. absurd (bad_not_journal c.loop-number.number is)

pub returns-clause-bad : goal.returns-clause-bad
returns-clause-bad g c = λ i is. absurd (no_error _ _ is)

pub returns-clause-disk : goal.returns-clause-disk
returns-clause-disk g c = λ is. absurd (no_error _ _ is)

pub returns-clause-journal : goal.returns-clause-journal
returns-clause-journal g c = λ is. absurd (no_error _ _ is)

pub returns-clause-none_failed : goal.returns-clause-none_failed
returns-clause-none_failed g c = c.loop-number.invariant.none_failed

pub returns-clause-same : goal.returns-clause-same
returns-clause-same g c = c.loop-number.invariant.same
