use Rattle.std.proofs.Common.{sym, subst, ap, ◌∙◌}
use Rattle.oc_keep.specs.Files.{disks, recovered}
use Rattle.oc_keep.specs.Promises.{HoldFiles}
use Rattle.oc_keep.specs.declared.seat.Seat.{Seat}
use Rattle.oc_world.specs.ProcessState.{IsRunning}
use Rattle.oc_world.proofs.Loaded.{loaded_runs}
use Rattle.oc_world.proofs.starting.load.Goals as goal

pub wanting-requires : goal.wanting-requires
wanting-requires g c =
    let f = c.args.files in
    c.in-Err.ensures.works c.requires.reliable
    (subst (λ (s : Seat). HoldFiles g.D.Disk.view s.header.nodes (disks f.control f.alternate f.content)) (sym c.in_ok-seat.ensures) c.requires.files)

pub returns-in-Ok-clause-running : goal.returns-in-Ok-clause-running
returns-in-Ok-clause-running g c =
    let f = c.args.files in
    let seat = c.in_ok-seat.seat in
    subst (λ (s : Seat). IsRunning g.D.Disk.view s.header s.id c.in-Ok.kept) c.in_ok-seat.ensures
    (loaded_runs g.D.Disk.view seat.header seat.id (disks f.control f.alternate f.content) c.in-Ok.kept c.requires.honest c.requires.reliable c.in-Ok.ensures.loaded c.in-Ok.ensures.safely)

pub returns-in-Ok-clause-node : goal.returns-in-Ok-clause-node
returns-in-Ok-clause-node g c =
    let f = c.args.files in
    let view = g.D.Disk.view in
    c.in-Ok.ensures.loaded.node c.requires.honest
    ∙ ap (λ (s : Seat). recovered s.header s.id (view f.control).seen (view f.alternate).seen (view f.content).seen) c.in_ok-seat.ensures
