use Rattle.std.proofs.Common.{◌≡◌, sym, ap, subst, ◌∙◌}
use Rattle.oc_base.specs.Groups.{shelf}
use Rattle.oc_model.specs.World.{Process, World}
use Rattle.oc_model.specs.World.{node as node_in}
use Rattle.oc_replay.specs.Digests.{digest_text}
use Rattle.oc_world.specs.World.{WorldView, processes_of}
use Rattle.oc_world.proofs.Sites.{got}
use Rattle.oc_world.proofs.Turns.{read_process, within_of}
use Rattle.oc_world.proofs.world.World.digest.Goals as goal

pub returns : goal.returns
returns c =
    let s = c.self.inside in
    let sites = s.processes.items in
    let ps = processes_of sites in
    let world_is = ap (λ (v : WorldView). v.world) c.self.view_is in
    let net = s.net.messages in
    let x = c.args.node in
    let i = c.index-at.result in
    let at = c.index-at.ensures.next in
    let is = c.self.invariant in
    let node = within_of ps net x (rw (← c.self.view_is) at c.requires) in
    let p = c.index-process.result.now.process in
    let read = read_process ps x i p is.numbered at node.1 (got sites i c.index-process.result.now c.index-process.ensures) in
    subst (λ (w : World). c.in_ok-digits.digits.items ≡ digest_text (node_in w x).control.kept (shelf (node_in w x).groups)) world_is (c.in_ok-digits.ensures ∙ ap (λ (r : Process). digest_text r.node.control.kept (shelf r.node.groups)) (sym read))
