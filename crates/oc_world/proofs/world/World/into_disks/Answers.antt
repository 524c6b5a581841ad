use Rattle.std.proofs.Common.{◌≡◌, ℕ, sym, ap, subst, ◌∙◌}
use Rattle.oc_content.specs.ContentFile.{groups_in}
use Rattle.oc_journal.specs.JournalFile.{frames_of}
use Rattle.oc_keep.specs.Files.{Survives, disks}
use Rattle.oc_keep.specs.KeptView.{header_of}
use Rattle.oc_model.specs.World.{Process, World, process_in}
use Rattle.oc_model.specs.World.{node as node_in}
use Rattle.oc_io.specs.MemDiskView.{view_of}
use Rattle.oc_world.proofs.Left.{groups_left}
use Rattle.oc_world.specs.World.{WorldView, processes_of}
use Rattle.oc_world.proofs.Sites.{got}
use Rattle.oc_world.proofs.Turns.{id_at, read_process, within_of}
use Rattle.oc_world.proofs.world.World.into_disks.Goals as goal

pub returns-clause-survives : goal.returns-clause-survives
returns-clause-survives c =
    let s = c.self.inside in
    let sites = s.processes.items in
    let ps = processes_of sites in
    let world_is = ap (λ (v : WorldView). v.world) c.self.view_is in
    let net = s.net.messages in
    let x = c.args.node in
    let i = c.index-at.result in
    let at = c.index-at.ensures.next in
    let is = c.self.invariant in
    let node = within_of ps net x (rw (← c.self.view_is) at (c.has.ensures.0 c.if-not-has.false)) in
    let p = c.swap_remove-process.result.process in
    let r = c.into_disks.result in
    let value = got sites i c.swap_remove-process.result c.swap_remove-process.ensures.value in
    let read = read_process ps x i p is.numbered at node.1 value in
    let me = id_at ps x i p is.numbered at node.1 value in
    subst (λ (w : World). Survives view_of (header_of (node_in w x).control) x (disks r.0 r.1 r.2) (node_in w x)) world_is
    (subst (λ (q : Process). Survives view_of (header_of q.node.control) x (disks r.0 r.1 r.2) q.node) (sym read)
    (subst (λ (y : ℕ). Survives view_of (header_of p.node.control) y (disks r.0 r.1 r.2) p.node) me c.into_disks.ensures))

pub returns-clause-source : goal.returns-clause-source
returns-clause-source c = λ first content left.
    let s = c.self.inside in
    let sites = s.processes.items in
    let ps = processes_of sites in
    let world_is = ap (λ (v : WorldView). v.world) c.self.view_is in
    let net = s.net.messages in
    let x = c.args.node in
    let i = c.index-at.result in
    let at = c.index-at.ensures.next in
    let is = c.self.invariant in
    let node = within_of ps net x (rw (← c.self.view_is) at (c.has.ensures.0 c.if-not-has.false)) in
    let p = c.swap_remove-process.result.process in
    let r = c.into_disks.result in
    let read = read_process ps x i p is.numbered at node.1 (got sites i c.swap_remove-process.result c.swap_remove-process.ensures.value) in
    let here : groups_in (frames_of content) ≡ p.node.groups = groups_left (header_of p.node.control) p.node.control.me (disks r.0 r.1 r.2) p.node content c.into_disks.ensures left in
    subst (λ (w : World). groups_in (frames_of content) ≡ w.source) world_is
    (here ∙ ap (λ (q : Process). q.node.groups) (sym read) ∙ ap (λ (y : ℕ). (process_in ps y).node.groups) first)
