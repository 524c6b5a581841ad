use Rattle.std.proofs.Common.{◌≡◌, ℕ, IsErr, List, Ok, [], get_or, subst, arith}
use Rattle.std.proofs.lemmas.Result.{err_from_is_err_and}
use Rattle.oc_io.proofs.DiskMoments.{still_honest}
use Rattle.oc_model.specs.Lawful.{IsRecord}
use Rattle.oc_model.proofs.Lists.{all_append}
use Rattle.oc_record.specs.Reading.{decoded}
use Rattle.oc_journal.proofs.ReadRuns.{OnlyReads-then, NoneFailed-then}
use Rattle.oc_store.proofs.FrameReads.{goes_on, is_bad}
use Rattle.oc_store.proofs.loading.read_all.Goals as goal

pub returns-in_err-more-clause-bad_frame : goal.returns-in_err-more-clause-bad_frame
returns-in_err-more-clause-bad_frame g c =
    let u = g.D.Disk.view c.args.journal.now.disk in
    let v = g.D.Disk.view c.loop-number.journal.disk in
    let way = c.loop-number.invariant in
    let p = err_from_is_err_and c.from_residual.result c.from_residual.ensures.1 in
    rw (p.1, p.2) (λ number is honest.
    let bad = c.in_err-more.ensures.bad_frame number is in
    let here = subst (λ (bodies : List (List ℕ)). IsErr (decoded c.args.nodes (get_or bodies c.loop-number.number []))) (way.reads.frames honest) (bad.1 (still_honest u v way.reads.disk.goes_on honest)) in
    rw bad.0 (is_bad c.args.nodes c.args.journal.now.frames c.loop-number.list.items c.loop-number.number (omega (arith, c.loop-number-test.true, way.count)) here (way.so_far honest)))

pub loop-number-preserved : goal.loop-number-preserved
loop-number-preserved g c =
    let u = g.D.Disk.view c.args.journal.now.disk in
    let v = g.D.Disk.view c.loop-number.journal.disk in
    let way = c.loop-number.invariant in
    record {
      reads = OnlyReads-then g.D.Disk.view c.args.journal.now c.loop-number.journal c.read_frame.new.journal (λ h. g.met.D.Disk.consistent c.args.journal.now.disk h) way.reads c.in_ok-more.ensures.same;
      none_failed = NoneFailed-then g.D.Disk.view c.args.journal.now c.loop-number.journal c.read_frame.new.journal way.none_failed c.in_ok-more.ensures.none_failed;
      count = way.count;
      lawful = rw c.in_ok-append.ensures.items (all_append (IsRecord c.args.nodes) c.loop-number.list.items c.in_ok-more.more.items way.lawful c.in_ok-more.ensures.lawful);
      so_far = λ honest.
          let here = subst (λ (bodies : List (List ℕ)). decoded c.args.nodes (get_or bodies c.loop-number.number []) ≡ Ok c.in_ok-more.more.items) (way.reads.frames honest) (c.in_ok-more.ensures.list (still_honest u v way.reads.disk.goes_on honest)) in
          rw c.in_ok-append.ensures.items (goes_on c.args.nodes c.args.journal.now.frames c.loop-number.list.items c.in_ok-more.more.items c.loop-number.number (omega (arith, c.loop-number-test.true, way.count)) here (way.so_far honest));
    }
