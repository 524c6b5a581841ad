use Rattle.std.proofs.Common.{◌≡◌, ℕ, true, false, Some, List, slice_set, sym, ap, subst, ◌∙◌}
use Rattle.oc_model.specs.declared.answer.Answer.{Answer}
use Rattle.oc_model.specs.declared.message.Message.{Message}
use Rattle.oc_model.specs.declared.word.Word.TheVariants as words
use Rattle.oc_model.specs.NextWorld.{word_of_act}
use Rattle.oc_model.specs.Step.{step}
use Rattle.oc_model.specs.World.{Process, World, acted}
use Rattle.oc_world.specs.World.{IsNetwork, RenewsAt, WorldView, processes_of, seen_as, world_of}
use Rattle.oc_world.proofs.Sites.{got, idle, on_err, put, renewed, unchanged}
use Rattle.oc_world.proofs.Turns.{among_at, input_here, network_acted, read_twice, turn_acted, turn_idle, up_here, within_of, word_acted, word_idle}
use Rattle.oc_world.proofs.world.World.act_at.Goals as goal

pub returns-then-not-is_up-clause-world : goal.returns-then-not-is_up-clause-world
returns-then-not-is_up-clause-world c =
    let s = c.self.inside in
    let sites = s.processes.items in
    let ps = processes_of sites in
    let net = s.net.messages in
    let x = c.args.node in
    let i = c.index-at.result in
    let at = c.index-at.ensures.next in
    let is = c.self.invariant in
    let world_is = ap (λ (v : WorldView). v.world) c.self.view_is in
    let node = within_of ps net x (rw (← c.self.view_is) at c.requires.node) in
    let off = up_here ps x i c.index.result.now.process false is.numbered at node.1 (got sites i c.index.result.now c.index.ensures) (sym c.is_up.ensures.up ∙ c.if-not-is_up.true) in
    subst (λ (w : World). w ≡ acted w (Some (record { at = x; input = c.args.input.now }))) world_is (turn_idle ps net x c.args.input.now off)

pub returns-then-not-is_up-clause-word : goal.returns-then-not-is_up-clause-word
returns-then-not-is_up-clause-word c =
    let s = c.self.inside in
    let sites = s.processes.items in
    let ps = processes_of sites in
    let net = s.net.messages in
    let x = c.args.node in
    let i = c.index-at.result in
    let at = c.index-at.ensures.next in
    let is = c.self.invariant in
    let world_is = ap (λ (v : WorldView). v.world) c.self.view_is in
    let node = within_of ps net x (rw (← c.self.view_is) at c.requires.node) in
    let off = up_here ps x i c.index.result.now.process false is.numbered at node.1 (got sites i c.index.result.now c.index.ensures) (sym c.is_up.ensures.up ∙ c.if-not-is_up.true) in
    subst (λ (w : World). words.Down ≡ word_of_act w (Some (record { at = x; input = c.args.input.now }))) world_is (word_idle ps net x c.args.input.now off)

pub act-requires-clause-input : goal.act-requires-clause-input
act-requires-clause-input c =
    let s = c.self.inside in
    let sites = s.processes.items in
    let ps = processes_of sites in
    let net = s.net.messages in
    let x = c.args.node in
    let i = c.index-at.result in
    let at = c.index-at.ensures.next in
    let is = c.self.invariant in
    let world_is = ap (λ (v : WorldView). v.world) c.self.view_is in
    let node = within_of ps net x (rw (← c.self.view_is) at c.requires.node) in
    let site = c.index_mut-process.result.now in
    let p = site.process in
    let here = got sites i site c.index_mut-process.ensures.value in
    input_here s.chain s.net.nodes ps net x i p c.args.input.now is at node.1 here (rw (← c.self.view_is) at c.requires.input)

pub invariant_of-self-2 : goal.invariant_of-self-2
invariant_of-self-2 c =
    let s = c.self.inside in
    let sites = s.processes.items in
    let ps = processes_of sites in
    let net = s.net.messages in
    let x = c.args.node in
    let i = c.index-at.result in
    let at = c.index-at.ensures.next in
    let is = c.self.invariant in
    let world_is = ap (λ (v : WorldView). v.world) c.self.view_is in
    let node = within_of ps net x (rw (← c.self.view_is) at c.requires.node) in
    let site = c.index_mut-process.result.now in
    let p = site.process in
    let here = got sites i site c.index_mut-process.ensures.value in
    let done = c.in_ok-answer.ensures in
    subst (λ (n : ℕ). IsNetwork s.chain (processes_of (slice_set sites i c.act.new.process)) n) (sym done.nodes)
    (subst (λ (l : List Process). IsNetwork s.chain l s.net.nodes) (sym (put sites i c.act.new.process))
    (network_acted s.chain s.net.nodes ps x i p c.act.new.process.process c.args.input.now is at node.1 here done.same (ap (λ (r : Process). r.node.groups) done.process)))

pub returns-clause-world : goal.returns-clause-world
returns-clause-world c =
    let s = c.self.inside in
    let sites = s.processes.items in
    let ps = processes_of sites in
    let net = s.net.messages in
    let x = c.args.node in
    let i = c.index-at.result in
    let at = c.index-at.ensures.next in
    let is = c.self.invariant in
    let world_is = ap (λ (v : WorldView). v.world) c.self.view_is in
    let node = within_of ps net x (rw (← c.self.view_is) at c.requires.node) in
    let site = c.index_mut-process.result.now in
    let p = site.process in
    let here = got sites i site c.index_mut-process.ensures.value in
    let on : p.up ≡ true = ap (λ (r : Process). r.up) (read_twice ps x i p c.index.result.now.process is.numbered at node.1 here (got sites i c.index.result.now c.index.ensures)) ∙ (sym c.is_up.ensures.up ∙ c.if-not-is_up.false) in
    let done = c.in_ok-answer.ensures in
    let was = among_at s.chain s.net.nodes ps x i p is at node.1 here in
    let q : Process = record { node = (step p.node c.args.input.now).node; up = true } in
    let turned : world_of (processes_of (slice_set sites i c.act.new.process)) c.act.new.net.messages ≡ acted (world_of ps net) (Some (record { at = x; input = c.args.input.now })) =
    ap (λ (l : List Process). world_of l c.act.new.net.messages) (put sites i c.act.new.process)
    ∙ (ap (λ (r : Process). world_of (slice_set ps i r) c.act.new.net.messages) done.process
    ∙ (ap (λ (ms : List Message). world_of (slice_set ps i q) ms) done.messages ∙ turn_acted ps net x i p c.args.input.now is.numbered at node.1 here on was.limits.0)) in
    subst (λ (w : World). world_of (processes_of (slice_set sites i c.act.new.process)) c.act.new.net.messages ≡ acted w (Some (record { at = x; input = c.args.input.now }))) world_is turned

pub returns-clause-word : goal.returns-clause-word
returns-clause-word c =
    let s = c.self.inside in
    let sites = s.processes.items in
    let ps = processes_of sites in
    let net = s.net.messages in
    let x = c.args.node in
    let i = c.index-at.result in
    let at = c.index-at.ensures.next in
    let is = c.self.invariant in
    let world_is = ap (λ (v : WorldView). v.world) c.self.view_is in
    let node = within_of ps net x (rw (← c.self.view_is) at c.requires.node) in
    let site = c.index_mut-process.result.now in
    let p = site.process in
    let here = got sites i site c.index_mut-process.ensures.value in
    let on : p.up ≡ true = ap (λ (r : Process). r.up) (read_twice ps x i p c.index.result.now.process is.numbered at node.1 here (got sites i c.index.result.now c.index.ensures)) ∙ (sym c.is_up.ensures.up ∙ c.if-not-is_up.false) in
    let said : words.Node c.in_ok-answer.answer ≡ word_of_act (world_of ps net) (Some (record { at = x; input = c.args.input.now })) =
    ap (λ (a : Answer). words.Node a) c.in_ok-answer.ensures.answer ∙ word_acted ps net x i p c.args.input.now is.numbered at node.1 here on in
    subst (λ (w : World). words.Node c.in_ok-answer.answer ≡ word_of_act w (Some (record { at = x; input = c.args.input.now }))) world_is said

pub returns-clause-renews : goal.returns-clause-renews
returns-clause-renews c =
    let s = c.self.inside in
    let sites = s.processes.items in
    let ps = processes_of sites in
    let net = s.net.messages in
    let x = c.args.node in
    let i = c.index-at.result in
    let at = c.index-at.ensures.next in
    let is = c.self.invariant in
    let world_is = ap (λ (v : WorldView). v.world) c.self.view_is in
    let node = within_of ps net x (rw (← c.self.view_is) at c.requires.node) in
    let site = c.index_mut-process.result.now in
    let p = site.process in
    let here = got sites i site c.index_mut-process.ensures.value in
    subst (λ (v : WorldView). RenewsAt (Some (record { at = x; input = c.args.input.now })) v (seen_as (slice_set sites i c.act.new.process) c.act.new.net.messages)) c.self.view_is
    (renewed sites net c.act.new.net.messages x i site c.act.new.process c.args.input.now at node.1 c.index_mut-process.ensures.value c.in_ok-answer.ensures.renews)

pub returns-then-not-is_up-clause-renews : goal.returns-then-not-is_up-clause-renews
returns-then-not-is_up-clause-renews c =
    let s = c.self.inside in
    let sites = s.processes.items in
    let ps = processes_of sites in
    let net = s.net.messages in
    let x = c.args.node in
    let i = c.index-at.result in
    let at = c.index-at.ensures.next in
    let is = c.self.invariant in
    let world_is = ap (λ (v : WorldView). v.world) c.self.view_is in
    let node = within_of ps net x (rw (← c.self.view_is) at c.requires.node) in
    subst (λ (v : WorldView). RenewsAt (Some (record { at = x; input = c.args.input.now })) v v) c.self.view_is
    (idle sites net x i c.index.result.now c.args.input.now at node.1 c.index.ensures (sym c.is_up.ensures.kept ∙ c.if-not-is_up.true))

pub act-requires-clause-nodes : goal.act-requires-clause-nodes
act-requires-clause-nodes c =
    let s = c.self.inside in
    let sites = s.processes.items in
    let ps = processes_of sites in
    let net = s.net.messages in
    let x = c.args.node in
    let i = c.index-at.result in
    let at = c.index-at.ensures.next in
    let is = c.self.invariant in
    let world_is = ap (λ (v : WorldView). v.world) c.self.view_is in
    let node = within_of ps net x (rw (← c.self.view_is) at c.requires.node) in
    let site = c.index_mut-process.result.now in
    let p = site.process in
    let here = got sites i site c.index_mut-process.ensures.value in
    sym (among_at s.chain s.net.nodes ps x i p is at node.1 here).among

pub invariant_of-self : goal.invariant_of-self
invariant_of-self c =
    let s = c.self.inside in
    let sites = s.processes.items in
    let i = c.index-at.result in
    let failed = c.in_err-answer.ensures in
    subst (λ (n : ℕ). IsNetwork s.chain (processes_of (slice_set sites i c.act.new.process)) n) (sym failed.nodes)
    (subst (λ (l : List Process). IsNetwork s.chain l s.net.nodes) (sym (unchanged sites i c.index_mut-process.result.now c.act.new.process c.index_mut-process.ensures.value failed.err.0)) c.self.invariant)

pub returns-in_err-answer-clause-err : goal.returns-in_err-answer-clause-err
returns-in_err-answer-clause-err c =
    let s = c.self.inside in
    let sites = s.processes.items in
    let i = c.index-at.result in
    let failed = c.in_err-answer.ensures in
    let same : world_of (processes_of (slice_set sites i c.act.new.process)) c.act.new.net.messages ≡ c.args.self.now.world =
    ap (λ (l : List Process). world_of l c.act.new.net.messages) (unchanged sites i c.index_mut-process.result.now c.act.new.process c.index_mut-process.ensures.value failed.err.0)
    ∙ (ap (λ (ms : List Message). world_of (processes_of sites) ms) failed.err.1 ∙ ap (λ (v : WorldView). v.world) c.self.view_is) in
    on_err c.from_residual.result (world_of (processes_of (slice_set sites i c.act.new.process)) c.act.new.net.messages ≡ c.args.self.now.world) same
