use Rattle.std.proofs.Common.{ap, sym, subst, ◌∙◌}
use Rattle.oc_io.specs.DiskPast.{MayLeave}
use Rattle.oc_io.specs.MemDiskView.{MemDiskView}
use Rattle.oc_io.proofs.Blots.{crash_by-image}
use Rattle.oc_io.proofs.mem_disk.MemDisk.crash.Goals as goal

pub returns-clause-image : goal.returns-clause-image
returns-clause-image c =
    let bytes = ap (λ (d : MemDiskView). d.bytes) c.new.ensures ∙ c.leave.ensures in
    let image = crash_by-image c.stop_set.result c.self.inside.log.past c.self.inside.bytes.items c.self.invariant.1 in
    let left = subst (MayLeave c.self.inside.bytes.items c.self.inside.log.past) (sym bytes) image in
    subst (λ (d : MemDiskView). MayLeave d.bytes d.past c.new.result.bytes) c.self.view_is left
