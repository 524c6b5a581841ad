use Rattle.std.proofs.Common.{ap, ◌∙◌}
use Rattle.oc_io.specs.MemDiskView.{MemDiskView, done}
use Rattle.oc_io.proofs.DiskCalls.{wrote-time, wrote-tears}
use Rattle.oc_io.proofs.mem_disk.MemDiskDisk.write_at.Goals as goal

pub returns-clause-time : goal.returns-clause-time
returns-clause-time c = λ _.
    let is = c.put.ensures ∙ ap (λ (d : MemDiskView). done d c.args.at c.args.bytes.now) c.in_ok-admit.ensures.ok.1 in
    wrote-time c.args.self.now c.put.new.self c.args.at c.args.bytes.now c.requires is

pub returns-clause-torn : goal.returns-clause-torn
returns-clause-torn c = λ _.
    let is = c.put.ensures ∙ ap (λ (d : MemDiskView). done d c.args.at c.args.bytes.now) c.in_ok-admit.ensures.ok.1 in
    wrote-tears c.args.self.now c.put.new.self c.args.at c.args.bytes.now c.requires is
