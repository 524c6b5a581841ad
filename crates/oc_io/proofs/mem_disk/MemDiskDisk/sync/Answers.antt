use Rattle.std.proofs.Common.{ap, ◌∙◌}
use Rattle.oc_io.specs.DiskLogView.{DiskLogView}
use Rattle.oc_io.specs.MemDiskView.{MemDiskView}
use Rattle.oc_io.proofs.DiskCalls.{synced-image}
use Rattle.oc_io.proofs.mem_disk.MemDiskDisk.sync.Goals as goal

pub returns-clause-images : goal.returns-clause-images
returns-clause-images c = λ _ image left.
    let bytes = ap (λ (d : MemDiskView). d.bytes) (c.self.view_is ∙ c.in_ok-admit.ensures.ok.1) in
    let past = ap (λ (l : DiskLogView). l.past) c.note_sync.ensures in
    synced-image c.args.self.now.bytes c.self.inside.bytes.items c.args.self.now.past c.note_sync.new.self.past _ bytes past image left
