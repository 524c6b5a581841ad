use Rattle.std.proofs.Common.{◌≡◌, List, true, false, slice_set, refl, sym, ap, subst, ◌∙◌}
use Rattle.oc_model.specs.declared.answer.Answer.TheVariants as answers
use Rattle.oc_model.specs.declared.word.Word.TheVariants as words
use Rattle.oc_model.specs.declared.event.Event.TheVariants.{Crash}
use Rattle.oc_model.specs.NextWorld.{crashed, stopped, word_of}
use Rattle.oc_model.specs.World.{Process, World, process}
use Rattle.oc_world.specs.World.{IsNetwork, WorldView, processes_of, world_of}
use Rattle.oc_world.proofs.Sites.{got, put}
use Rattle.oc_world.proofs.Turns.{network_same, read_twice, turn_crashed, turn_down, up_here, within_of, word_crashed, word_down}
use Rattle.oc_world.proofs.world.World.crash.Goals as goal

pub returns-then-not-is_up-clause-world : goal.returns-then-not-is_up-clause-world
returns-then-not-is_up-clause-world c =
    let s = c.self.inside in
    let sites = s.processes.items in
    let ps = processes_of sites in
    let net = s.net.messages in
    let x = c.args.node in
    let i = c.index-at.result in
    let at = c.index-at.ensures.next in
    let is = c.self.invariant in
    let world_is = ap (λ (v : WorldView). v.world) c.self.view_is in
    let node = within_of ps net x (rw (← c.self.view_is) at c.requires) in
    let off = up_here ps x i c.index.result.now.process false is.numbered at node.1 (got sites i c.index.result.now c.index.ensures) (sym c.is_up.ensures.up ∙ c.if-not-is_up.true) in
    subst (λ (w : World). w ≡ crashed w (process w x)) world_is (turn_down ps net x off)

pub returns-then-not-is_up-clause-word : goal.returns-then-not-is_up-clause-word
returns-then-not-is_up-clause-word c =
    let s = c.self.inside in
    let sites = s.processes.items in
    let ps = processes_of sites in
    let net = s.net.messages in
    let x = c.args.node in
    let i = c.index-at.result in
    let at = c.index-at.ensures.next in
    let is = c.self.invariant in
    let world_is = ap (λ (v : WorldView). v.world) c.self.view_is in
    let node = within_of ps net x (rw (← c.self.view_is) at c.requires) in
    let off = up_here ps x i c.index.result.now.process false is.numbered at node.1 (got sites i c.index.result.now c.index.ensures) (sym c.is_up.ensures.up ∙ c.if-not-is_up.true) in
    subst (λ (w : World). words.Down ≡ word_of w (Crash x)) world_is (word_down ps net x off)

pub invariant_of-self : goal.invariant_of-self
invariant_of-self c =
    let s = c.self.inside in
    let sites = s.processes.items in
    let ps = processes_of sites in
    let net = s.net.messages in
    let x = c.args.node in
    let i = c.index-at.result in
    let at = c.index-at.ensures.next in
    let is = c.self.invariant in
    let world_is = ap (λ (v : WorldView). v.world) c.self.view_is in
    let node = within_of ps net x (rw (← c.self.view_is) at c.requires) in
    let site = c.index_mut-process.result.now in
    let p = site.process in
    let here = got sites i site c.index_mut-process.ensures.value in
    subst (λ (l : List Process). IsNetwork s.chain l s.net.nodes) (sym (put sites i c.crash.new.self))
    (subst (λ (r : Process). IsNetwork s.chain (slice_set ps i r) s.net.nodes) (sym c.crash.ensures)
    (network_same s.chain s.net.nodes ps x i p (stopped p.node) is at node.1 here (record { me = refl; header = refl }) refl))

pub returns-clause-world : goal.returns-clause-world
returns-clause-world c =
    let s = c.self.inside in
    let sites = s.processes.items in
    let ps = processes_of sites in
    let net = s.net.messages in
    let x = c.args.node in
    let i = c.index-at.result in
    let at = c.index-at.ensures.next in
    let is = c.self.invariant in
    let world_is = ap (λ (v : WorldView). v.world) c.self.view_is in
    let node = within_of ps net x (rw (← c.self.view_is) at c.requires) in
    let site = c.index_mut-process.result.now in
    let p = site.process in
    let here = got sites i site c.index_mut-process.ensures.value in
    let on : p.up ≡ true = ap (λ (r : Process). r.up) (read_twice ps x i p c.index.result.now.process is.numbered at node.1 here (got sites i c.index.result.now c.index.ensures)) ∙ (sym c.is_up.ensures.up ∙ c.if-not-is_up.false) in
    let turned : world_of (processes_of (slice_set sites i c.crash.new.self)) net ≡ crashed (world_of ps net) (process (world_of ps net) x) =
    ap (λ (l : List Process). world_of l net) (put sites i c.crash.new.self)
    ∙ (ap (λ (q : Process). world_of (slice_set ps i q) net) c.crash.ensures ∙ turn_crashed ps net x i p is.numbered at node.1 here on) in
    subst (λ (w : World). world_of (processes_of (slice_set sites i c.crash.new.self)) net ≡ crashed w (process w x)) world_is turned

pub returns-clause-word : goal.returns-clause-word
returns-clause-word c =
    let s = c.self.inside in
    let sites = s.processes.items in
    let ps = processes_of sites in
    let net = s.net.messages in
    let x = c.args.node in
    let i = c.index-at.result in
    let at = c.index-at.ensures.next in
    let is = c.self.invariant in
    let world_is = ap (λ (v : WorldView). v.world) c.self.view_is in
    let node = within_of ps net x (rw (← c.self.view_is) at c.requires) in
    let off = up_here ps x i c.index.result.now.process true is.numbered at node.1 (got sites i c.index.result.now c.index.ensures) (sym c.is_up.ensures.up ∙ c.if-not-is_up.false) in
    subst (λ (w : World). words.Node answers.Ok ≡ word_of w (Crash x)) world_is (word_crashed ps net x off)
