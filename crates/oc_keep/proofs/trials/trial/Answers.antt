use Rattle.std.proofs.Common.{refl}
use Rattle.oc_keep.specs.Files.{IsLeft, disks, disks_in}
use Rattle.oc_keep.specs.KeptView.{IsHonest, disks_of}
use Rattle.oc_keep.specs.Trials.{first_node}
use Rattle.oc_keep.proofs.Ends.{ended_load}
use Rattle.oc_keep.proofs.Runs.{all_reliable, full_on, inputs_of, loaded_survives, ran_cause, ran_leaves, ran_on}
use Rattle.oc_keep.proofs.Stays.{all_honest, leaves_now}
use Rattle.oc_keep.proofs.trials.trial.Goals as goal

pub returns-clause-full : goal.returns-clause-full
returns-clause-full g c = λ honest ended.
    let view = g.D.Disk.view in
    let a = c.args in
    let d = disks_in a.files in
    let first = c.in-Ok.kept in
    let last = c.run-trial.new.kept in
    let r = c.into_disks-control.result in
    let loaded : IsHonest view first = all_honest view d (disks_of first) c.in-Ok.ensures.safely.goes_on honest in
    let ends = c.run-trial.ensures.full loaded ended in
    full_on view (first_node view a.seat.header a.seat.id d) last (disks r.0 r.1 r.2) a.inputs.items c.run-trial.result.done first ends (c.in-Ok.ensures.loaded.node honest) c.into_disks-control.ensures.disks
    (c.into_disks-control.ensures.full ends.unclosed (all_honest view (disks_of first) (disks_of last) c.run-trial.ensures.goes_on loaded))

pub load-requires-clause-header : goal.load-requires-clause-header
load-requires-clause-header g c = c.requires.header

pub load-requires-clause-id : goal.load-requires-clause-id
load-requires-clause-id g c = c.requires.id

pub returns-in-Err-clause-leaves : goal.returns-in-Err-clause-leaves
returns-in-Err-clause-leaves g c = λ honest.
    let view = g.D.Disk.view in
    let a = c.args in
    let d = disks_in a.files in
    let h = a.seat.header in
    let e = disks_in c.in-Err.files in
    let safely = c.in-Err.ensures.safely_err in
    leaves_now view h a.seat.id d e (IsLeft view h a.seat.id d) (λ x h. g.met.D.Disk.consistent x h) (all_honest view d e safely.goes_on honest) (safely.any_moment honest)

pub returns-in-Err-clause-counted : goal.returns-in-Err-clause-counted
returns-in-Err-clause-counted g c = refl

pub returns-in-Err-clause-cause : goal.returns-in-Err-clause-cause
returns-in-Err-clause-cause g c = c.in-Err.ensures.refuses

pub returns-in-Err-clause-goes_on : goal.returns-in-Err-clause-goes_on
returns-in-Err-clause-goes_on g c = c.in-Err.ensures.safely_err.goes_on

pub returns-in-Err-clause-full : goal.returns-in-Err-clause-full
returns-in-Err-clause-full g c = λ honest ended. absurd (ended_load c.in-Err.error ended)

pub returns-in-Err-clause-works : goal.returns-in-Err-clause-works
returns-in-Err-clause-works g c = c.in-Err.ensures.works

pub run-trial-requires-clause-open : goal.run-trial-requires-clause-open
run-trial-requires-clause-open g c = c.in-Ok.ensures.loaded.unclosed

pub run-trial-requires-clause-inputs : goal.run-trial-requires-clause-inputs
run-trial-requires-clause-inputs g c =
    let a = c.args in
    let loaded = c.in-Ok.ensures.loaded in
    inputs_of c.in-Ok.kept.node.control a.seat.header a.seat.id a.inputs.items loaded.header loaded.id c.requires.inputs

pub run-trial-requires-clause-survives : goal.run-trial-requires-clause-survives
run-trial-requires-clause-survives g c =
    let a = c.args in
    let d = disks_in a.files in
    let h = a.seat.header in
    loaded_survives g.D.Disk.view h a.seat.id d c.in-Ok.kept c.in-Ok.ensures.loaded c.in-Ok.ensures.safely

pub returns-clause-leaves : goal.returns-clause-leaves
returns-clause-leaves g c = λ honest.
    let a = c.args in
    let d = disks_in a.files in
    let h = a.seat.header in
    let r = c.into_disks-control.result in
    ran_leaves g.D.Disk.view h a.seat.id d c.in-Ok.kept c.in-Ok.ensures.loaded c.in-Ok.ensures.safely c.run-trial.new.kept (disks r.0 r.1 r.2) a.inputs.items c.run-trial.result c.into_disks-control.ensures.disks honest
    (c.run-trial.ensures.leaves (all_honest g.D.Disk.view d (disks_of c.in-Ok.kept) c.in-Ok.ensures.safely.goes_on honest))

pub returns-clause-counted : goal.returns-clause-counted
returns-clause-counted g c = c.run-trial.ensures.counted

pub returns-clause-cause : goal.returns-clause-cause
returns-clause-cause g c =
    let a = c.args in
    let d = disks_in a.files in
    let h = a.seat.header in
    let r = c.into_disks-control.result in
    ran_cause g.D.Disk.view h a.seat.id d c.in-Ok.kept c.in-Ok.ensures.loaded c.in-Ok.ensures.safely c.run-trial.new.kept (disks r.0 r.1 r.2) c.run-trial.result.end c.into_disks-control.ensures.disks c.run-trial.ensures.cause

pub returns-clause-goes_on : goal.returns-clause-goes_on
returns-clause-goes_on g c =
    let a = c.args in
    let d = disks_in a.files in
    let h = a.seat.header in
    let r = c.into_disks-control.result in
    ran_on g.D.Disk.view h a.seat.id d c.in-Ok.kept c.in-Ok.ensures.loaded c.in-Ok.ensures.safely c.run-trial.new.kept (disks r.0 r.1 r.2) c.into_disks-control.ensures.disks c.run-trial.ensures.goes_on

pub returns-clause-works : goal.returns-clause-works
returns-clause-works g c = λ sure files.
    let a = c.args in
    c.run-trial.ensures.works (all_reliable g.D.Disk.view (disks_in a.files) (disks_of c.in-Ok.kept) c.in-Ok.ensures.safely.goes_on sure)
