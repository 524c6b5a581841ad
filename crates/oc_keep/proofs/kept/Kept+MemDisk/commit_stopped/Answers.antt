use Rattle.std.proofs.Common.{◌≡◌, inl, refl, sym, ap, ◌∙◌}
use Rattle.oc_base.specs.Stops.{is_kept_new}
use Rattle.oc_content.specs.ContentView.{ContentView}
use Rattle.oc_io.specs.MemDiskView.{MemDiskView}
use Rattle.oc_store.specs.StoreView.{StoreView, first_disk, second_disk}
use Rattle.oc_keep.specs.Files.{disks}
use Rattle.oc_keep.specs.KeptView.{KeptView, disks_of}
use Rattle.oc_keep.proofs.Leaving.{piece_files, records_files, unwritten_files}
use Rattle.oc_keep.proofs.Stops.{other_stays, stopped_disks, stopped_nothing, stopped_piece, stopped_records}
use Rattle.oc_keep.proofs.kept.Kept+MemDisk.commit_stopped.Goals as goal

-- the disks that a store and a content log hand back are the disks of their node
same_disks : (k : KeptView MemDiskView) (s : StoreView MemDiskView) (l : ContentView MemDiskView) (x y z : MemDiskView) → s ≡ k.store → l ≡ k.content
    → x ≡ first_disk s → y ≡ second_disk s → z ≡ l.journal.disk → disks x y z ≡ disks_of k
same_disks k s l x y z store content first second third =
    ap (λ (d : MemDiskView). disks d y z) (first ∙ ap (λ (s : StoreView MemDiskView). first_disk s) store)
    ∙ ap (λ (d : MemDiskView). disks (first_disk k.store) d z) (second ∙ ap (λ (s : StoreView MemDiskView). second_disk s) store)
    ∙ ap (λ (d : MemDiskView). disks (first_disk k.store) (second_disk k.store) d) (third ∙ ap (λ (l : ContentView MemDiskView). l.journal.disk) content)

pub returns-in-Nothing-clause-survives : goal.returns-in-Nothing-clause-survives
returns-in-Nothing-clause-survives c =
    let k = c.args.self in
    let of = c.files_of-store in
    let r = c.into_disks-control.result in
    let same = same_disks k of.result.0 of.result.1 r.0 r.1 c.into_disk.result of.ensures.store of.ensures.content c.into_disks-control.ensures.first c.into_disks-control.ensures.second c.into_disk.ensures.disk in
    rw (sym of.ensures.write ∙ c.in-Nothing.is)
    (stopped_nothing c.frames_add_their_records.ensures.read k of.ensures.kept c.requires.open c.args.ready.plan (is_kept_new c.args.calls c.args.image) r.0 r.1 c.into_disk.result same)

pub returns-in-Records-clause-survives : goal.returns-in-Records-clause-survives
returns-in-Records-clause-survives c =
    let k = c.args.self in
    let of = c.files_of-store in
    let r = c.commit_stopped-control.result in
    let is = sym of.ensures.write ∙ c.in-Records.is in
    let spells = rw is at c.requires.ready.writes in
    let kept = rw of.ensures.store at c.commit_stopped-control.ensures.kept in
    rw is
    (stopped_records c.frames_add_their_records.ensures.read k of.ensures.kept c.requires.open c.args.ready.plan c.in-Records.frame (is_kept_new c.args.calls c.args.image) r.0 r.1 c.into_disk-in-Records.result
    c.requires.ready.applies.records spells.0 kept (c.into_disk-in-Records.ensures.disk ∙ ap (λ (l : ContentView MemDiskView). l.journal.disk) of.ensures.content))

pub returns-in-Content-clause-survives : goal.returns-in-Content-clause-survives
returns-in-Content-clause-survives c =
    let k = c.args.self in
    let of = c.files_of-store in
    let r = c.into_disks-control-in-Content.result in
    let is = sym of.ensures.write ∙ c.in-Content.is in
    let put = rw is at c.requires.ready.writes in
    let same = same_disks k of.result.0 of.result.1 r.0 r.1 k.content.journal.disk of.ensures.store of.ensures.content c.into_disks-control-in-Content.ensures.first c.into_disks-control-in-Content.ensures.second
    (ap (λ (l : ContentView MemDiskView). l.journal.disk) (sym of.ensures.content)) in
    let says = rw of.ensures.content at c.commit_stopped.ensures.content in
    rw is
    (stopped_piece c.frames_add_their_records.ensures.read k of.ensures.kept c.requires.open c.args.ready.plan c.in-Content.piece c.args.calls c.args.image r.0 r.1 c.commit_stopped.result
    put.0 same says c.commit_stopped.ensures.fresh)

pub returns-in-Nothing-clause-files : goal.returns-in-Nothing-clause-files
returns-in-Nothing-clause-files c =
    let k = c.args.self in
    let of = c.files_of-store in
    let r = c.into_disks-control.result in
    let same = same_disks k of.result.0 of.result.1 r.0 r.1 c.into_disk.result of.ensures.store of.ensures.content c.into_disks-control.ensures.first c.into_disks-control.ensures.second c.into_disk.ensures.disk in
    let controls = rw of.ensures.store at c.into_disks-control.ensures.holds in
    let content = rw of.ensures.content at c.into_disk.ensures.holds in
    unwritten_files k of.ensures.kept c.requires.open (disks r.0 r.1 c.into_disk.result) same
    (controls (of.ensures.kept.open_store c.requires.open) (refl, refl)) (content (of.ensures.kept.open_content c.requires.open) refl)

pub returns-in-Records-clause-files : goal.returns-in-Records-clause-files
returns-in-Records-clause-files c =
    let k = c.args.self in
    let of = c.files_of-store in
    let r = c.commit_stopped-control.result in
    let spells = rw (sym of.ensures.write ∙ c.in-Records.is) at c.requires.ready.writes in
    let journals = rw of.ensures.store at c.commit_stopped-control.ensures.journals in
    let content = rw of.ensures.content at c.into_disk-in-Records.ensures.holds in
    records_files k of.ensures.kept c.requires.open c.frames_add_their_records.ensures.good c.args.ready.plan.records c.in-Records.frame c.args.calls c.args.image r.0 r.1 c.into_disk-in-Records.result
    c.requires.ready.applies.records spells.0 journals (c.into_disk-in-Records.ensures.disk ∙ ap (λ (l : ContentView MemDiskView). l.journal.disk) of.ensures.content) (content (of.ensures.kept.open_content c.requires.open) refl)

pub returns-in-Content-clause-files : goal.returns-in-Content-clause-files
returns-in-Content-clause-files c =
    let k = c.args.self in
    let of = c.files_of-store in
    let r = c.into_disks-control-in-Content.result in
    let same = same_disks k of.result.0 of.result.1 r.0 r.1 k.content.journal.disk of.ensures.store of.ensures.content c.into_disks-control-in-Content.ensures.first c.into_disks-control-in-Content.ensures.second
    (ap (λ (l : ContentView MemDiskView). l.journal.disk) (sym of.ensures.content)) in
    let controls = rw of.ensures.store at c.into_disks-control-in-Content.ensures.holds in
    piece_files k of.ensures.kept c.requires.open r.0 r.1 c.commit_stopped.result _ same (controls (of.ensures.kept.open_store c.requires.open) (refl, refl))
    c.commit_stopped.ensures.content c.commit_stopped.ensures.journal c.commit_stopped.ensures.fresh

pub returns-in-Nothing-clause-disks : goal.returns-in-Nothing-clause-disks
returns-in-Nothing-clause-disks c =
    let of = c.files_of-store in
    record {
      control = inl (c.into_disks-control.ensures.first ∙ ap (λ (s : StoreView MemDiskView). first_disk s) of.ensures.store);
      alternate = inl (c.into_disks-control.ensures.second ∙ ap (λ (s : StoreView MemDiskView). second_disk s) of.ensures.store);
      content = inl (c.into_disk.ensures.disk ∙ ap (λ (l : ContentView MemDiskView). l.journal.disk) of.ensures.content);
    }

pub returns-in-Records-clause-disks : goal.returns-in-Records-clause-disks
returns-in-Records-clause-disks c =
    let s = c.args.self.store in
    let of = c.files_of-store in
    let r = c.commit_stopped-control.result in
    let both = stopped_disks s.side s.current.disk s.other.disk r.0 r.1 (rw of.ensures.store at c.commit_stopped-control.ensures.current) (rw of.ensures.store at c.commit_stopped-control.ensures.other) in
    record { control = both.0; alternate = both.1; content = inl (c.into_disk-in-Records.ensures.disk ∙ ap (λ (l : ContentView MemDiskView). l.journal.disk) of.ensures.content) }

pub returns-in-Nothing-clause-others : goal.returns-in-Nothing-clause-others
returns-in-Nothing-clause-others c =
    let k = c.args.self in
    let of = c.files_of-store in
    let r = c.into_disks-control.result in
    rw (sym of.ensures.write ∙ c.in-Nothing.is)
    (same_disks k of.result.0 of.result.1 r.0 r.1 c.into_disk.result of.ensures.store of.ensures.content c.into_disks-control.ensures.first c.into_disks-control.ensures.second c.into_disk.ensures.disk)

pub returns-in-Records-clause-others : goal.returns-in-Records-clause-others
returns-in-Records-clause-others c =
    let s = c.args.self.store in
    let of = c.files_of-store in
    let r = c.commit_stopped-control.result in
    rw (sym of.ensures.write ∙ c.in-Records.is) (
      other_stays s.side s.current.disk s.other.disk r.0 r.1 (rw of.ensures.store at c.commit_stopped-control.ensures.other),
      c.into_disk-in-Records.ensures.disk ∙ ap (λ (l : ContentView MemDiskView). l.journal.disk) of.ensures.content,
    )

pub returns-in-Content-clause-others : goal.returns-in-Content-clause-others
returns-in-Content-clause-others c =
    let of = c.files_of-store in
    rw (sym of.ensures.write ∙ c.in-Content.is) (
      c.into_disks-control-in-Content.ensures.first ∙ ap (λ (s : StoreView MemDiskView). first_disk s) of.ensures.store,
      c.into_disks-control-in-Content.ensures.second ∙ ap (λ (s : StoreView MemDiskView). second_disk s) of.ensures.store,
    )
