use Rattle.std.proofs.Common.{ap, subst}
use Rattle.oc_keep.specs.Files.{disks}
use Rattle.oc_world.specs.ProcessView.{ProcessView}
use Rattle.oc_world.proofs.States.{ProcessSurvives, running_survives, stopped_survives}
use Rattle.oc_world.proofs.process.Process.into_disks.Goals as goal

pub returns-in-Running : goal.returns-in-Running
returns-in-Running c =
    let s = c.self.inside in
    let r = c.into_disks.result in
    subst (ProcessSurvives (disks r.0 r.1 r.2)) (ap (λ (p : ProcessView). p.process) c.self.view_is)
    (running_survives s.seat.header s.seat.id s.state c.in-Running.kept (disks r.0 r.1 r.2) c.self.invariant.2 c.in-Running.is c.into_disks.ensures.disks)

pub returns : goal.returns
returns c =
    let s = c.self.inside in
    let f = c.in-Stopped.files in
    subst (ProcessSurvives (disks f.control f.alternate f.content)) (ap (λ (p : ProcessView). p.process) c.self.view_is)
    (stopped_survives s.seat.header s.seat.id s.state f c.self.invariant.2 c.in-Stopped.is)
