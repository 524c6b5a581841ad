use Rattle.oc_keep.specs.Files.{disks}
use Rattle.oc_world.proofs.Left.{fresh_of, left_by_crash}
use Rattle.oc_world.proofs.stopping.crash.Goals as goal

pub returns : goal.returns
returns c =
    let k = c.args.kept in
    let d = c.into_disks-control.result in
    left_by_crash k (disks d.0 d.1 d.2) (record { control = c.crash.result; alternate = c.crash-2.result; content = c.crash-3.result }) c.into_disks-control.ensures.disks c.requires.survives (c.into_disks-control.ensures.files c.requires.unclosed c.requires.honest)
    (record { fresh = fresh_of _ _ c.crash.ensures.disk; image = c.crash.ensures.image })
    (record { fresh = fresh_of _ _ c.crash-2.ensures.disk; image = c.crash-2.ensures.image })
    (record { fresh = fresh_of _ _ c.crash-3.ensures.disk; image = c.crash-3.ensures.image })
