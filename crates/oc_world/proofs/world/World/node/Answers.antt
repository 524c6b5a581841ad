use Rattle.std.proofs.Common.{◌≡◌, true, length, sym, ap, subst, ◌∙◌}
use Rattle.oc_laws_step.specs.LawfulNode.{IsLawfulControl}
use Rattle.oc_model.specs.World.{Process, World, ids, is_up}
use Rattle.oc_model.specs.World.{node as node_in}
use Rattle.oc_world.specs.World.{WorldView, processes_of, world_of}
use Rattle.oc_world.proofs.Sites.{got}
use Rattle.oc_world.proofs.Turns.{lawful_here, read_process, within_of}
use Rattle.oc_world.proofs.world.World.node.Goals as goal

pub node-requires : goal.node-requires
node-requires c =
    let s = c.self.inside in
    let sites = s.processes.items in
    let ps = processes_of sites in
    let world_is = ap (λ (v : WorldView). v.world) c.self.view_is in
    let net = s.net.messages in
    let x = c.args.node in
    let i = c.index-at.result in
    let at = c.index-at.ensures.next in
    let is = c.self.invariant in
    let node = within_of ps net x (rw (← c.self.view_is) at c.requires.0) in
    let p = c.index-process.result.now.process in
    let read = read_process ps x i p is.numbered at node.1 (got sites i c.index-process.result.now c.index-process.ensures) in
    let up : is_up (world_of ps net) x ≡ true = rw (← c.self.view_is) at c.requires.1 in
    ap (λ (r : Process). r.up) (sym read) ∙ up

pub returns-clause-control : goal.returns-clause-control
returns-clause-control c =
    let s = c.self.inside in
    let sites = s.processes.items in
    let ps = processes_of sites in
    let world_is = ap (λ (v : WorldView). v.world) c.self.view_is in
    let net = s.net.messages in
    let x = c.args.node in
    let i = c.index-at.result in
    let at = c.index-at.ensures.next in
    let is = c.self.invariant in
    let node = within_of ps net x (rw (← c.self.view_is) at c.requires.0) in
    let p = c.index-process.result.now.process in
    let read = read_process ps x i p is.numbered at node.1 (got sites i c.index-process.result.now c.index-process.ensures) in
    subst (λ (w : World). c.node.result.now.control ≡ (node_in w x).control) world_is (c.node.ensures.control ∙ ap (λ (r : Process). r.node.control) (sym read))

pub returns-clause-lawful : goal.returns-clause-lawful
returns-clause-lawful c =
    let s = c.self.inside in
    let sites = s.processes.items in
    let ps = processes_of sites in
    let world_is = ap (λ (v : WorldView). v.world) c.self.view_is in
    let net = s.net.messages in
    let x = c.args.node in
    let i = c.index-at.result in
    let at = c.index-at.ensures.next in
    let is = c.self.invariant in
    let node = within_of ps net x (rw (← c.self.view_is) at c.requires.0) in
    subst (λ (w : World). IsLawfulControl (length (ids w)) (node_in w x).control) world_is
    (lawful_here s.chain s.net.nodes ps net x i c.index-process.result.now.process is at node.1 (got sites i c.index-process.result.now c.index-process.ensures) c.node.ensures.lawful)
