use Rattle.std.proofs.Common.{◌≡◌, List, ℕ, Some, true, length, refl, sym, ap, subst, ◌∙◌}
use Rattle.oc_io.specs.MemDiskView.{MemDiskView, view_of}
use Rattle.oc_journal.specs.JournalFile.{frames_of}
use Rattle.oc_journal.specs.Stopped.{frames_after}
use Rattle.oc_base.specs.declared.shelf.Shelf.{Shelf}
use Rattle.oc_base.specs.Shelves.{line_of}
use Rattle.oc_content.specs.ContentFile.{fits, content_of, groups_in, groups_after}
use Rattle.oc_content.specs.ContentView.{ContentView}
use Rattle.oc_content.proofs.Views.{content_next, content_stopped, good_frames, groups_are}
use Rattle.oc_content.proofs.content.Content+MemDisk.commit_stopped.Goals as goal

pub returns-clause-content : goal.returns-clause-content
returns-clause-content c =
    let j = c.self.inside.journal in
    let x = c.self.inside.index in
    let p = c.args.piece in
    let e = p.entry in
    let left = frames_of c.append_stopped.result.bytes in
    let lines : x.shelves.items ≡ c.args.self.shelves = ap (λ (v : ContentView MemDiskView). v.shelves) c.self.view_is in
    let fit = subst (λ (l : List Shelf). fits (line_of e.group l) (length l) e.start (length e.bytes) e.seals ≡ true) (sym lines) (c.requires.prepared.fits c.requires.adds) in
    let old = good_frames view_of j x c.self.invariant.indexed refl ∙ ap Some (sym (groups_are view_of j x c.self.invariant.indexed refl)) in
    let new = content_next view_of j x p.body e c.self.invariant.indexed refl c.frame.ensures.says fit in
    let is = c.append_stopped.ensures.frames ∙ ap (λ (b : List ℕ). frames_after c.args.calls c.args.image j.frames b) c.frame.ensures.body in
    subst (λ (v : ContentView MemDiskView). content_of left ≡ Some (groups_after c.args.calls c.args.image (groups_in v.journal.frames) e)) c.self.view_is
    (content_stopped c.args.calls c.args.image j.frames p.body (groups_in j.frames) e left is old new)
