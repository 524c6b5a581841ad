use Rattle.oc_keep.specs.KeptView.{kept_of}
use Rattle.oc_keep.proofs.Leaving.{kept_files, kept_full}
use Rattle.oc_keep.proofs.Sides.{honest_store}
use Rattle.oc_keep.proofs.kept.Kept.into_disks.Goals as goal

pub returns-clause-files : goal.returns-clause-files
returns-clause-files g c =
    let view = g.D.Disk.view in
    let s = c.self.inside in
    rw (← c.self.view_is) (λ is_open honest.
    kept_files view (kept_of s.node s.store s.content s.closed) c.self.invariant is_open honest
    (c.into_disks-control.ensures.holds (c.self.invariant.open_store is_open) (honest_store view s.store honest.control honest.alternate))
    (c.into_disk.ensures.holds (c.self.invariant.open_content is_open) honest.content))

pub returns-clause-full : goal.returns-clause-full
returns-clause-full g c =
    let view = g.D.Disk.view in
    let s = c.self.inside in
    rw (← c.self.view_is) (λ is_open honest.
    kept_full view (kept_of s.node s.store s.content s.closed) c.self.invariant is_open honest
    (c.into_disks-control.ensures.holds (c.self.invariant.open_store is_open) (honest_store view s.store honest.control honest.alternate))
    (c.into_disk.ensures.holds (c.self.invariant.open_content is_open) honest.content))
