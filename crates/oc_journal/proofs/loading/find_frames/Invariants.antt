use Rattle.std.proofs.Common.{◌≡◌, ◌-◌}
use Rattle.oc_io.specs.DiskView.{StaysAsItWas, HasNoFault}
use Rattle.oc_journal.specs.Scanning.{IsScanned}
use Rattle.oc_journal.proofs.loading.find_frames.Given as goal

-- the frames before the gate are found, and the disk is unchanged
abbrev pub invariant-loop-extents : goal.invariant-loop-extents
invariant-loop-extents g l = record {
  scanned : IsScanned (g.D.Disk.view l.fn.disk) l.extents.items l.gate;
  stays : StaysAsItWas (g.D.Disk.view l.fn.disk) (g.D.Disk.view l.disk);
  no_fault : HasNoFault (g.D.Disk.view l.fn.disk) (g.D.Disk.view l.disk);
  size : (g.D.Disk.view l.disk).size ≡ (g.D.Disk.view l.fn.disk).size;
}

abbrev pub decreases-loop-extents : goal.decreases-loop-extents
decreases-loop-extents g l = l.size - l.gate
