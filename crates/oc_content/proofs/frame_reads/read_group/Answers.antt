use Rattle.std.proofs.Common.{List, take, length, refl, sym, ap, subst, ◌∙◌}
use Rattle.oc_base.specs.declared.shelf.Shelf.{Shelf}
use Rattle.oc_base.specs.Shelves.{AreLinesAscending, IsLineAt, IsFreeLineAt}
use Rattle.oc_content.specs.ContentFile.{bytes_in}
use Rattle.oc_content.proofs.Lines.{stands_within}
use Rattle.oc_content.proofs.Locating.{held_of-goes}
use Rattle.oc_content.proofs.Views.{IsIndexed-sized, read_nothing, read_past, read_begins, read_there, ok_is_no_error, disk_is_no_group, stands_there}
use Rattle.std.proofs.lemmas.Result.{err_from_is_err_and}
use Rattle.oc_journal.proofs.ReadRuns.{OnlyReads-none}
use Rattle.oc_content.proofs.frame_reads.read_group.Goals as goal

pub look_up-requires : goal.look_up-requires
look_up-requires g c =
    subst (λ (ss : List Shelf). AreLinesAscending ss) (sym c.deref.ensures.value) (IsIndexed-sized g.D.Disk.view c.args.journal.now c.args.index.now c.requires).ascending

pub find-requires-clause-within : goal.find-requires-clause-within
find-requires-clause-within g c =
    let stands = subst (λ (ss : List Shelf). IsLineAt ss c.args.group.now c.in-Found.at) c.deref.ensures.value c.in-Found.ensures in
    stands_within c.args.index.now.shelves.items c.args.group.now c.in-Found.at stands

pub find-requires-clause-rows : goal.find-requires-clause-rows
find-requires-clause-rows g c = (IsIndexed-sized g.D.Disk.view c.args.journal.now c.args.index.now c.requires).rows

pub find-requires-clause-short : goal.find-requires-clause-short
find-requires-clause-short g c = (IsIndexed-sized g.D.Disk.view c.args.journal.now c.args.index.now c.requires).short

pub returns-in_default-clause-no_group : goal.returns-in_default-clause-no_group
returns-in_default-clause-no_group g c =
    let goes = subst (λ (ss : List Shelf). IsFreeLineAt ss c.args.group.now c.in_default.field-0) c.deref.ensures.value c.in_default.ensures in
    (λ _. held_of-goes c.args.index.now.shelves.items c.args.group.now c.in_default.field-0 goes, λ _. refl)

pub returns-in_default-clause-same : goal.returns-in_default-clause-same
returns-in_default-clause-same g c = OnlyReads-none g.D.Disk.view c.args.journal.now

pub returns-clause-bytes : goal.returns-clause-bytes
returns-clause-bytes g c = λ honest.
    let j = c.args.journal.now in
    let x = c.args.index.now in
    let name = c.args.group.now in
    let spans = c.in-Some.spans.now in
    let stands = subst (λ (ss : List Shelf). IsLineAt ss name c.in-Found.at) c.deref.ensures.value c.in-Found.ensures in
    c.in_ok-read_spans.ensures.bytes honest (read_begins g.D.Disk.view j x name c.in-Found.at c.args.start spans c.in-Some.skip c.requires stands c.in-Some.ensures.found honest)
    ∙ ap (take (length c.args.buf.now)) (read_there g.D.Disk.view j x name c.in-Found.at c.args.start spans c.in-Some.skip c.requires stands c.in-Some.ensures.found honest)

pub returns-clause-no_group : goal.returns-clause-no_group
returns-clause-no_group g c =
    let stands = subst (λ (ss : List Shelf). IsLineAt ss c.args.group.now c.in-Found.at) c.deref.ensures.value c.in-Found.ensures in
    (λ is. absurd (ok_is_no_error _ _ is), λ none. absurd (stands_there c.args.index.now.shelves.items c.args.group.now c.in-Found.at stands none))

pub returns-in_err-read_spans-clause-no_group : goal.returns-in_err-read_spans-clause-no_group
returns-in_err-read_spans-clause-no_group g c =
    let p = err_from_is_err_and c.from_residual.result c.from_residual.ensures.1 in
    let stands = subst (λ (ss : List Shelf). IsLineAt ss c.args.group.now c.in-Found.at) c.deref.ensures.value c.in-Found.ensures in
    (λ is. absurd (disk_is_no_group c.from_residual.result p.0 p.1 p.2 is), λ none. absurd (stands_there c.args.index.now.shelves.items c.args.group.now c.in-Found.at stands none))

pub returns-in_default-find-clause-bytes : goal.returns-in_default-find-clause-bytes
returns-in_default-find-clause-bytes g c = λ honest.
    let j = c.args.journal.now in
    let name = c.args.group.now in
    let stands = subst (λ (ss : List Shelf). IsLineAt ss name c.in-Found.at) c.deref.ensures.value c.in-Found.ensures in
    read_nothing (length c.args.buf.now) c.args.start (bytes_in name j.frames) (read_past g.D.Disk.view j c.args.index.now name c.in-Found.at c.args.start c.requires stands c.in_default-find.ensures.found honest)

pub returns-in_default-find-clause-no_group : goal.returns-in_default-find-clause-no_group
returns-in_default-find-clause-no_group g c =
    let stands = subst (λ (ss : List Shelf). IsLineAt ss c.args.group.now c.in-Found.at) c.deref.ensures.value c.in-Found.ensures in
    (λ is. absurd (ok_is_no_error _ _ is), λ none. absurd (stands_there c.args.index.now.shelves.items c.args.group.now c.in-Found.at stands none))
