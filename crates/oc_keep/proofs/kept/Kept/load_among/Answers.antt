use Rattle.std.proofs.Common.{ℕ, ◌+◌, ◌≤◌, refl, sym, subst}
use Rattle.oc_base.specs.declared.limits.TheConstants.{MAX_BASE_ACKED}
use Rattle.oc_model.specs.Lawful.{AreRecords}
use Rattle.oc_store.specs.StoreView.{first_disk, second_disk}
use Rattle.oc_store.proofs.MoreNodes.{store_too}
use Rattle.oc_keep.proofs.Loads.{loaded_kept, loaded_node, loads_controls, loads_files}
use Rattle.oc_keep.proofs.kept.Kept.load_among.Goals as goal

pub returns-in-Err-clause-safely_err : goal.returns-in-Err-clause-safely_err
returns-in-Err-clause-safely_err g c =
    let a = c.args in
    loads_controls g.D.Disk.view a.seat.header a.seat.id a.files.control a.files.alternate a.files.content c.in-Err.control c.in-Err.alternate (λ x h. g.met.D.Disk.consistent x h) c.in-Err.ensures.safely_err

pub returns-in-Err-clause-refuses : goal.returns-in-Err-clause-refuses
returns-in-Err-clause-refuses g c = c.in-Err.ensures.refuses

pub returns-in-Err-load-clause-refuses : goal.returns-in-Err-load-clause-refuses
returns-in-Err-load-clause-refuses g c =
    (c.in-Ok.ensures.loaded.good_first, c.in-Ok.ensures.loaded.good_second, c.in-Err-load.ensures.refuses)

pub returns-in-Err-load-clause-safely_err : goal.returns-in-Err-load-clause-safely_err
returns-in-Err-load-clause-safely_err g c =
    let a = c.args in
    let d = c.into_disks-control.result in
    loads_files g.D.Disk.view a.seat.header a.seat.id a.files.control a.files.alternate a.files.content d.0 d.1 c.in-Err-load.content c.in-Ok.loaded.0 c.in-Err-load.content
    c.in-Ok.ensures.safely c.in-Err-load.ensures.safely_err c.into_disks-control.ensures.first c.into_disks-control.ensures.second refl

pub returns-in-Ok-start-clause-safely : goal.returns-in-Ok-start-clause-safely
returns-in-Ok-start-clause-safely g c =
    let a = c.args in
    let s = c.in-Ok.loaded.0 in
    let l = c.in-Ok-load.content in
    loads_files g.D.Disk.view a.seat.header a.seat.id a.files.control a.files.alternate a.files.content (first_disk s) (second_disk s) l.journal.disk s l.journal.disk
    c.in-Ok.ensures.safely c.in-Ok-load.ensures.safely refl refl refl

pub returns-clause-safely_err : goal.returns-clause-safely_err
returns-clause-safely_err g c =
    let a = c.args in
    let d = c.into_disks-control-in-Err-start.result in
    let l = c.in-Ok-load.content in
    loads_files g.D.Disk.view a.seat.header a.seat.id a.files.control a.files.alternate a.files.content d.0 d.1 c.into_disk.result c.in-Ok.loaded.0 l.journal.disk
    c.in-Ok.ensures.safely c.in-Ok-load.ensures.safely c.into_disks-control-in-Err-start.ensures.first c.into_disks-control-in-Err-start.ensures.second c.into_disk.ensures.disk

pub invariant_of-result : goal.invariant_of-result
invariant_of-result g c =
    let a = c.args in
    let s = c.in-Ok.loaded.0 in
    let l = c.in-Ok-load.content in
    let n = c.in-Ok-start.node in
    let started = rw c.deref.ensures.value at c.in-Ok-start.ensures.started in
    let loaded = store_too a.ids a.seat.header.nodes c.requires.ids g.D.Disk.view a.files.control a.files.alternate s c.in-Ok.loaded.1.items c.in-Ok.ensures.loaded in
    loaded_kept g.D.Disk.view a.seat.header a.seat.id a.files.control a.files.alternate a.files.content n s l c.in-Ok.loaded.1.items
    started loaded c.in-Ok.ensures.safely c.in-Ok-load.ensures.loaded c.in-Ok-load.ensures.safely
    c.in-Ok-start.ensures.reached (subst (λ (end : ℕ). n.control.kept.log.length ≤ MAX_BASE_ACKED + end) c.end.ensures c.in-Ok-start.ensures.log) c.in-Ok-start.ensures.short

pub returns-in-Ok-start-clause-loaded : goal.returns-in-Ok-start-clause-loaded
returns-in-Ok-start-clause-loaded g c =
    let a = c.args in
    let s = c.in-Ok.loaded.0 in
    let l = c.in-Ok-load.content in
    let n = c.in-Ok-start.node in
    let started = rw c.deref.ensures.value at c.in-Ok-start.ensures.started in
    let loaded = store_too a.ids a.seat.header.nodes c.requires.ids g.D.Disk.view a.files.control a.files.alternate s c.in-Ok.loaded.1.items c.in-Ok.ensures.loaded in
    let h = a.seat.header in
    loaded_node g.D.Disk.view h a.seat.id a.files.control a.files.alternate a.files.content n s l c.in-Ok.loaded.1.items
    started loaded c.in-Ok.ensures.safely c.in-Ok-load.ensures.loaded c.in-Ok-load.ensures.safely
    (loaded_kept g.D.Disk.view h a.seat.id a.files.control a.files.alternate a.files.content n s l c.in-Ok.loaded.1.items
    started loaded c.in-Ok.ensures.safely c.in-Ok-load.ensures.loaded c.in-Ok-load.ensures.safely
    c.in-Ok-start.ensures.reached (subst (λ (end : ℕ). n.control.kept.log.length ≤ MAX_BASE_ACKED + end) c.end.ensures c.in-Ok-start.ensures.log) c.in-Ok-start.ensures.short)

pub returns-in-Err-clause-loaded : goal.returns-in-Err-clause-loaded
returns-in-Err-clause-loaded g c = tt

pub returns-in-Err-clause-safely : goal.returns-in-Err-clause-safely
returns-in-Err-clause-safely g c = tt

pub returns-in-Err-load-clause-loaded : goal.returns-in-Err-load-clause-loaded
returns-in-Err-load-clause-loaded g c = tt

pub returns-in-Err-load-clause-safely : goal.returns-in-Err-load-clause-safely
returns-in-Err-load-clause-safely g c = tt

pub returns-in-Ok-start-clause-safely_err : goal.returns-in-Ok-start-clause-safely_err
returns-in-Ok-start-clause-safely_err g c = tt

pub returns-in-Ok-start-clause-refuses : goal.returns-in-Ok-start-clause-refuses
returns-in-Ok-start-clause-refuses g c = tt

pub returns-in-Ok-start-clause-works : goal.returns-in-Ok-start-clause-works
returns-in-Ok-start-clause-works g c = tt

pub returns-clause-loaded : goal.returns-clause-loaded
returns-clause-loaded g c = tt

pub returns-clause-safely : goal.returns-clause-safely
returns-clause-safely g c = tt

pub returns-clause-refuses : goal.returns-clause-refuses
returns-clause-refuses g c = tt

pub returns-clause-works : goal.returns-clause-works
returns-clause-works g c = λ sure files. refl

pub start-requires-clause-header : goal.start-requires-clause-header
start-requires-clause-header g c = c.requires.header

pub start-requires-clause-id : goal.start-requires-clause-id
start-requires-clause-id g c = c.requires.id

pub start-requires-clause-lawful : goal.start-requires-clause-lawful
start-requires-clause-lawful g c =
    let a = c.args in
    let s = c.in-Ok.loaded.0 in
    let loaded = store_too a.ids a.seat.header.nodes c.requires.ids g.D.Disk.view a.files.control a.files.alternate s c.in-Ok.loaded.1.items c.in-Ok.ensures.loaded in
    subst (AreRecords a.seat.header.nodes) (sym c.deref.ensures.value) loaded.lawful

pub returns-in-Err-clause-works : goal.returns-in-Err-clause-works
returns-in-Err-clause-works g c = λ sure files.
    c.in-Err.ensures.works sure.control sure.alternate files.control files.alternate

pub returns-in-Err-load-clause-works : goal.returns-in-Err-load-clause-works
returns-in-Err-load-clause-works g c = λ sure files. c.in-Err-load.ensures.works sure.content files.content.0 files.content.1

pub returns-in-Err-clause-files : goal.returns-in-Err-clause-files
returns-in-Err-clause-files g c = tt

pub returns-in-Err-load-clause-files : goal.returns-in-Err-load-clause-files
returns-in-Err-load-clause-files g c = tt

pub returns-clause-files : goal.returns-clause-files
returns-clause-files g c = tt

pub returns-in-Ok-start-clause-files : goal.returns-in-Ok-start-clause-files
returns-in-Ok-start-clause-files g c = λ honest. record {
  control = c.in-Ok.ensures.loaded.good_first honest.control;
  alternate = c.in-Ok.ensures.loaded.good_second honest.alternate;
  content = ((returns-in-Ok-start-clause-loaded g c).files honest).content;
}
