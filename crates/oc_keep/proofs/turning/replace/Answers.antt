use Rattle.std.proofs.Common.{◌+◌, false, List, Err, refl, ap, subst, ◌∙◌}
use Rattle.oc_base.specs.Lawful.{IsCount}
use Rattle.oc_model.specs.declared.record.Record.{Record}
use Rattle.oc_model.specs.Lawful.{AreRecords}
use Rattle.oc_model.specs.Snapshot.{snapshot}
use Rattle.oc_journal.specs.declared.errors.RestartError.{RestartError}
use Rattle.oc_keep.proofs.Replacing.{closes_made, next_above, next_count, replaces_made, snapshot_generation, spells_made, sure_room}
use Rattle.oc_keep.proofs.Sizes.{snapshot_fits}
use Rattle.oc_keep.proofs.Ends.{shut_open}
use Rattle.oc_keep.proofs.Stays.{keeps_none, keeps_other}
use Rattle.oc_keep.proofs.turning.replace.Goals as goal

pub prepare_snapshot-prepared-requires-clause-fits : goal.prepare_snapshot-prepared-requires-clause-fits
prepare_snapshot-prepared-requires-clause-fits g c =
    let found = rw c.in-Some.is at c.in_ok-list.ensures.found in
    rw (c.deref.ensures.value, found.0) (snapshot_fits (c.generation.result + 1) c.args.node.now.control.kept c.requires.reached.sound.kept.ancestors found.1.few)

pub returns-in-Ok-clause-replaces : goal.returns-in-Ok-clause-replaces
returns-in-Ok-clause-replaces g c =
    let n = c.args.node.now.control in
    let s = c.args.store.now in
    let m = c.prepare_snapshot-prepared.new.self in
    let frame = c.in_ok-frame.frame in
    let found = rw (c.in-Some.is, c.generation.ensures.generation) at c.in_ok-list.ensures.found in
    let next : IsCount (c.generation.result + 1) = rw c.generation.ensures.generation (next_count c.args.store.now.generation c.requires.next) in
    let lawful = (rw c.in-Some.is at c.in_ok-list.ensures.lawful) next in
    let spells = spells_made frame c.deref.result.now c.in-Some.list.items (snapshot (s.generation + 1) n.kept) c.in_ok-frame.ensures.frame c.deref.ensures.value found.0 in
    let still_open = c.prepare_snapshot-prepared.ensures.same.closed ∙ c.requires.open in
    let generation = snapshot_generation n.nodes (s.generation + 1) n.kept frame (subst (λ (rs : List Record). AreRecords n.nodes rs) found.0 lawful) spells in
    λ _. replaces_made g.D.Disk.view s m c.turn_over-turned.new.self (snapshot (s.generation + 1) n.kept) frame c.prepare_snapshot-prepared.ensures.same c.in-Ok.ensures.turns (c.turn_over-turned.ensures.any_moment still_open) spells generation

pub returns-in-Err-Disk-clause-disk : goal.returns-in-Err-Disk-clause-disk
returns-in-Err-Disk-clause-disk g c =
    let n = c.args.node.now.control in
    let s = c.args.store.now in
    let m = c.prepare_snapshot-prepared.new.self in
    let frame = c.in_ok-frame.frame in
    let found = rw (c.in-Some.is, c.generation.ensures.generation) at c.in_ok-list.ensures.found in
    let spells = spells_made frame c.deref.result.now c.in-Some.list.items (snapshot (s.generation + 1) n.kept) c.in_ok-frame.ensures.frame c.deref.ensures.value found.0 in
    let still_open = c.prepare_snapshot-prepared.ensures.same.closed ∙ c.requires.open in
    let disk = rw c.in-Err-Disk.is at c.in-Err-Disk.field-0-is in
    let failed = c.in-Err-Disk.is ∙ ap (λ (e : RestartError). Err e) disk in
    λ _. (closes_made g.D.Disk.view s m c.turn_over-turned.new.self (snapshot (s.generation + 1) n.kept) frame c.prepare_snapshot-prepared.ensures.same (c.turn_over-turned.ensures.disk failed) (c.turn_over-turned.ensures.any_moment still_open) spells, found.1)

pub returns-in-Ok-clause-short : goal.returns-in-Ok-clause-short
returns-in-Ok-clause-short g c =
    let found = rw (c.in-Some.is, c.generation.ensures.generation) at c.in_ok-list.ensures.found in
    (λ _. found.1, λ _. refl)

pub returns-in_err-list-clause-memory : goal.returns-in_err-list-clause-memory
returns-in_err-list-clause-memory g c = λ _. keeps_none g.D.Disk.view c.args.store.now

pub returns-in_err-frame-clause-memory : goal.returns-in_err-frame-clause-memory
returns-in_err-frame-clause-memory g c = λ _. keeps_other g.D.Disk.view c.args.store.now c.prepare_snapshot-prepared.new.self c.prepare_snapshot-prepared.ensures.same

pub prepare_snapshot-prepared-requires-clause-spelled : goal.prepare_snapshot-prepared-requires-clause-spelled
prepare_snapshot-prepared-requires-clause-spelled g c =
    let next : IsCount (c.generation.result + 1) = rw c.generation.ensures.generation (next_count c.args.store.now.generation c.requires.next) in
    let lawful = (rw c.in-Some.is at c.in_ok-list.ensures.lawful) next in
    rw c.deref.ensures.value (c.spellings_are_read.ensures.spelled c.args.node.now.control.nodes c.in-Some.list.items lawful)

pub prepare_snapshot-prepared-requires-clause-above : goal.prepare_snapshot-prepared-requires-clause-above
prepare_snapshot-prepared-requires-clause-above g c =
    let found = rw (c.in-Some.is, c.generation.ensures.generation) at c.in_ok-list.ensures.found in
    rw (c.deref.ensures.value, found.0) (next_above c.args.store.now.generation c.requires.next)

pub turn_over-turned-requires-clause-spare : goal.turn_over-turned-requires-clause-spare
turn_over-turned-requires-clause-spare g c = c.in_ok-frame.ensures.room.spare

pub turn_over-turned-requires-clause-above : goal.turn_over-turned-requires-clause-above
turn_over-turned-requires-clause-above g c = rw c.prepare_snapshot-prepared.ensures.same.generation c.in_ok-frame.ensures.above

pub returns-in-Err-Disk-clause-works : goal.returns-in-Err-Disk-clause-works
returns-in-Err-Disk-clause-works g c =
    let room = c.in_ok-frame.ensures.room in
    let same = c.prepare_snapshot-prepared.ensures.same in
    let disk = rw c.in-Err-Disk.is at c.in-Err-Disk.field-0-is in
    let failed = c.in-Err-Disk.is ∙ ap (λ (e : RestartError). Err e) disk in
    λ sure.
    let turned = c.turn_over-turned.ensures.works (same.closed ∙ c.requires.open) (sure_room g.D.Disk.view c.args.store.now.other c.prepare_snapshot-prepared.new.self.other c.deref.result.now c.in_ok-frame.frame same.other room c.in_ok-frame.ensures.frame sure) in
    absurd (shut_open false (rw failed at turned) refl)
