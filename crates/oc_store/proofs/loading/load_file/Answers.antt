use Rattle.oc_journal.proofs.ReadRuns.{LoadsSafely-reads}
use Rattle.oc_store.proofs.loading.load_file.Goals as goal

pub returns-in-Ok-read-clause-safely : goal.returns-in-Ok-read-clause-safely
returns-in-Ok-read-clause-safely g c =
    let u = g.D.Disk.view c.args.disk in
    let v = g.D.Disk.view c.in-Ok.journal.disk in
    let w = g.D.Disk.view c.read.new.journal.disk in
    LoadsSafely-reads u v w c.in-Ok.ensures.safely (λ h. g.met.D.Disk.consistent c.in-Ok.journal.disk h) c.read.ensures.same.disk

pub returns-in-Err-read-clause-safely_err : goal.returns-in-Err-read-clause-safely_err
returns-in-Err-read-clause-safely_err g c =
    let u = g.D.Disk.view c.args.disk in
    let v = g.D.Disk.view c.in-Ok.journal.disk in
    let w = g.D.Disk.view c.read.new.journal.disk in
    rw c.into_disk.ensures.disk (LoadsSafely-reads u v w c.in-Ok.ensures.safely (λ h. g.met.D.Disk.consistent c.in-Ok.journal.disk h) c.read.ensures.same.disk)
