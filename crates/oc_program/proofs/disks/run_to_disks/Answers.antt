use Rattle.oc_program.proofs.disks.run_to_disks.Goals as goal

pub returns : goal.returns
returns g c =
    let e = c.run-status.ensures.ended in
    (e.0, e.1, e.2, c.run-status.result.outside.stage, e.3, e.4, e.5, c.into_disks-disks.ensures.found, c.into_disks-disks.ensures.survives)
