use Rattle.std.proofs.Common.{◌≡◌, IsTrue, IsSome}
use Rattle.std.proofs.lemmas.Result.{IfOk-weaker, IfErr-weaker}
use Rattle.oc_io.specs.DiskView.{StaysAsItWas}
use Rattle.oc_io.proofs.DiskMoments.{still_honest}
use Rattle.oc_journal.specs.JournalFile.{frames_of, IsNoJournal}
use Rattle.oc_journal.specs.Promises.{LoadsSafely}
use Rattle.oc_journal.proofs.ReadRuns.{LoadsSafely-reads, IsLoaded-reads}
use Rattle.oc_journal.specs.declared.errors.FileError.TheVariants as errors
use Rattle.oc_content.specs.ContentFile.{content_of}
use Rattle.oc_content.specs.ContentView.{IsOpened, RefusesIndex}
use Rattle.oc_content.specs.Promises.{IsContentOf, RefusesContent}
use Rattle.oc_content.proofs.Causes.{refused_load, refused_index, refused_memory}
use Rattle.oc_content.proofs.content.Content.load.Goals as goal

pub returns-in-Ok-clause-loaded : goal.returns-in-Ok-clause-loaded
returns-in-Ok-clause-loaded g c =
    let view = g.D.Disk.view in
    let d = c.args.disk in
    let j = c.in-Ok.journal in
    IfOk-weaker c.indexed.result (λ content. IsOpened view j content) (λ content. IsContentOf view d content)
    (λ content o. record {
      journal = IsLoaded-reads view d j content.journal c.in-Ok.ensures.loaded c.in-Ok.ensures.safely o.reads o.none_failed;
      shelved = λ honest. o.shelved (still_honest (view d) (view j.disk) c.in-Ok.ensures.safely.goes_on honest);
    }) c.indexed.ensures.opened

pub returns-in-Ok-clause-safely : goal.returns-in-Ok-clause-safely
returns-in-Ok-clause-safely g c =
    let view = g.D.Disk.view in
    let u = view c.args.disk in
    let j = c.in-Ok.journal in
    IfOk-weaker c.indexed.result (λ content. IsOpened view j content) (λ content. LoadsSafely u (view content.journal.disk))
    (λ content o. LoadsSafely-reads u (view j.disk) (view content.journal.disk) c.in-Ok.ensures.safely (λ h. g.met.D.Disk.consistent j.disk h) o.reads.disk) c.indexed.ensures.opened

pub returns-in-Ok-clause-safely_err : goal.returns-in-Ok-clause-safely_err
returns-in-Ok-clause-safely_err g c =
    let view = g.D.Disk.view in
    let u = view c.args.disk in
    let j = c.in-Ok.journal in
    IfErr-weaker c.indexed.result (λ refused. StaysAsItWas (view j.disk) (view refused.0)) (λ refused. LoadsSafely u (view refused.0))
    (λ refused stays. LoadsSafely-reads u (view j.disk) (view refused.0) c.in-Ok.ensures.safely (λ h. g.met.D.Disk.consistent j.disk h) stays) c.indexed.ensures.stays_err

pub returns-in-Ok-clause-refuses : goal.returns-in-Ok-clause-refuses
returns-in-Ok-clause-refuses g c =
    let view = g.D.Disk.view in
    let u = view c.args.disk in
    let j = c.in-Ok.journal in
    let loaded = c.in-Ok.ensures.loaded in
    IfErr-weaker c.indexed.result (λ refused. RefusesIndex (view j.disk) (view refused.0) j.frames refused.1) (λ refused. RefusesContent u (view refused.0) refused.1)
    (λ refused why. refused_index u (view j.disk) (view refused.0) j.frames refused.1 c.in-Ok.ensures.safely.goes_on loaded.frames loaded.journal why) c.indexed.ensures.refuses

pub returns-in-Ok-clause-works : goal.returns-in-Ok-clause-works
returns-in-Ok-clause-works g c =
    let view = g.D.Disk.view in
    let u = view c.args.disk in
    let j = c.in-Ok.journal in
    let loaded = c.in-Ok.ensures.loaded in
    IfErr-weaker c.indexed.result (λ refused. RefusesIndex (view j.disk) (view refused.0) j.frames refused.1)
    (λ refused. IsTrue u.reliable → ¬ IsNoJournal u.seen → IsSome (content_of (frames_of u.seen)) → refused.1 ≡ errors.Memory)
    (λ refused why sure journal good. refused_memory u (view refused.0) refused.1 (refused_index u (view j.disk) (view refused.0) j.frames refused.1 c.in-Ok.ensures.safely.goes_on loaded.frames loaded.journal why) sure (g.met.D.Disk.reliable_keeps c.args.disk sure).honest journal good) c.indexed.ensures.refuses

pub returns-in-Err-clause-refuses : goal.returns-in-Err-clause-refuses
returns-in-Err-clause-refuses g c =
    let u = g.D.Disk.view c.args.disk in
    rw c.from.ensures (refused_load u (g.D.Disk.view c.in-Err.disk) c.in-Err.error c.in-Err.ensures.refuses)

pub returns-in-Err-clause-works : goal.returns-in-Err-clause-works
returns-in-Err-clause-works g c = λ sure journal good.
    let u = g.D.Disk.view c.args.disk in
    let w = g.D.Disk.view c.in-Err.disk in
    rw c.from.ensures (refused_memory u w _ (refused_load u w c.in-Err.error c.in-Err.ensures.refuses) sure (g.met.D.Disk.reliable_keeps c.args.disk sure).honest journal good)
