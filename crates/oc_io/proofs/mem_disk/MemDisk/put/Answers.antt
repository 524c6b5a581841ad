use Rattle.std.proofs.Common.{ap, arith, subst, sym, ◌≤◌, length}
use Rattle.oc_io.specs.DiskLogView.{DiskLogView}
use Rattle.oc_io.specs.Calls.{Fits}
use Rattle.oc_io.specs.MemDiskView.{MemDiskView, overwritten}
use Rattle.oc_io.proofs.DiskCalls.{Fits-overwritten}
use Rattle.oc_io.proofs.mem_disk.MemDisk.put.Goals as goal

pub invariant_of-self : goal.invariant_of-self
invariant_of-self c =
    let within : c.args.at ≤ length c.self.inside.bytes.items = subst (λ (d : MemDiskView). c.args.at ≤ length d.bytes) (sym c.self.view_is) c.requires.within in
    let fits = Fits-overwritten c.self.inside.bytes.items c.self.inside.log.past c.args.at c.args.bytes.now within c.self.invariant.1 in
    let past = ap (λ (l : DiskLogView). l.past) c.keep.ensures in
    let room = ap (λ (l : DiskLogView). l.room) c.keep.ensures in
    let had_room = subst (λ (d : MemDiskView). length c.args.bytes.now ≤ d.room) (sym c.self.view_is) c.requires.room in (
      omega (arith, room, had_room, within, c.overwrite.ensures.len, c.overwrite.ensures.capacity, c.self.invariant.0),
      subst (λ bytes. Fits bytes c.keep.new.log.past) (sym c.overwrite.ensures.items) (subst (λ past. Fits (overwritten c.self.inside.bytes.items c.args.at c.args.bytes.now) past) (sym past) fits),
    )
