use Rattle.std.proofs.Common.{Err, ap}
use Rattle.oc_content.proofs.Causes.{refuses_index}
use Rattle.oc_content.proofs.Views.{opened}
use Rattle.oc_content.proofs.content.indexed.Goals as goal

pub returns-in-Ok-clause-opened : goal.returns-in-Ok-clause-opened
returns-in-Ok-clause-opened g c =
    opened g.D.Disk.view c.args.journal c.index_frames.new.journal c.in-Ok.index c.index_frames.ensures.same c.in-Ok.ensures.none_failed c.in-Ok.ensures.indexed

pub returns-in-Err-clause-refuses : goal.returns-in-Err-clause-refuses
returns-in-Err-clause-refuses g c =
    let view = g.D.Disk.view in
    let j = c.args.journal in
    let e = c.in-Err.ensures in
    rw c.into_disk.ensures.disk (refuses_index (view j.disk) (view c.index_frames.new.journal.disk) j.frames c.in-Err.error (λ is. (e.disk (ap Err is)).fails) (λ is. e.journal (ap Err is)) (λ i is. e.bad i (ap Err is)))
