use Rattle.std.proofs.Common.{◌≡◌, List, Bool, true, false, Some, slice_set, sym, ap, subst, ◌∙◌, if◌then◌else◌}
use Rattle.oc_model.specs.declared.word.Word.TheVariants as words
use Rattle.oc_model.specs.NextWorld.{keeps_write, stopped_at, word_of_stop}
use Rattle.oc_keep.specs.Promises.{IsSameNode}
use Rattle.oc_model.specs.World.{Process, World}
use Rattle.oc_world.specs.World.{IsNetwork, WorldView, processes_of, world_of}
use Rattle.oc_world.proofs.Sites.{got, on_err, put, unchanged}
use Rattle.oc_world.proofs.Turns.{among_at, input_here, network_stopped, read_twice, turn_stopped, turn_unstopped, up_here, within_of, word_stopped, word_unstopped}
use Rattle.oc_world.proofs.world.World.stop_at.Goals as goal

pub returns-then-not-is_up-clause-world : goal.returns-then-not-is_up-clause-world
returns-then-not-is_up-clause-world c =
    let s = c.self.inside in
    let sites = s.processes.items in
    let ps = processes_of sites in
    let net = s.net.messages in
    let x = c.args.node in
    let i = c.index-at.result in
    let at = c.index-at.ensures.next in
    let is = c.self.invariant in
    let world_is = ap (λ (v : WorldView). v.world) c.self.view_is in
    let node = within_of ps net x (rw (← c.self.view_is) at c.requires.node) in
    let off = up_here ps x i c.index.result.now.process false is.numbered at node.1 (got sites i c.index.result.now c.index.ensures) (sym c.is_up.ensures.up ∙ c.if-not-is_up.true) in
    subst (λ (w : World). w ≡ stopped_at w c.args.calls c.args.image (Some (record { at = x; input = c.args.input.now }))) world_is (turn_unstopped ps net x c.args.input.now c.args.calls c.args.image off)

pub returns-then-not-is_up-clause-word : goal.returns-then-not-is_up-clause-word
returns-then-not-is_up-clause-word c =
    let s = c.self.inside in
    let sites = s.processes.items in
    let ps = processes_of sites in
    let net = s.net.messages in
    let x = c.args.node in
    let i = c.index-at.result in
    let at = c.index-at.ensures.next in
    let is = c.self.invariant in
    let world_is = ap (λ (v : WorldView). v.world) c.self.view_is in
    let node = within_of ps net x (rw (← c.self.view_is) at c.requires.node) in
    let off = up_here ps x i c.index.result.now.process false is.numbered at node.1 (got sites i c.index.result.now c.index.ensures) (sym c.is_up.ensures.up ∙ c.if-not-is_up.true) in
    subst (λ (w : World). words.Down ≡ word_of_stop w c.args.calls c.args.image (Some (record { at = x; input = c.args.input.now }))) world_is (word_unstopped ps net x c.args.input.now c.args.calls c.args.image off)

pub stop-requires-clause-input : goal.stop-requires-clause-input
stop-requires-clause-input c =
    let s = c.self.inside in
    let sites = s.processes.items in
    let ps = processes_of sites in
    let net = s.net.messages in
    let x = c.args.node in
    let i = c.index-at.result in
    let at = c.index-at.ensures.next in
    let is = c.self.invariant in
    let world_is = ap (λ (v : WorldView). v.world) c.self.view_is in
    let node = within_of ps net x (rw (← c.self.view_is) at c.requires.node) in
    let site = c.index_mut-process.result.now in
    let p = site.process in
    let here = got sites i site c.index_mut-process.ensures.value in
    input_here s.chain s.net.nodes ps net x i p c.args.input.now is at node.1 here (rw (← c.self.view_is) at c.requires.input)

pub invariant_of-self-2 : goal.invariant_of-self-2
invariant_of-self-2 c =
    let s = c.self.inside in
    let sites = s.processes.items in
    let ps = processes_of sites in
    let net = s.net.messages in
    let x = c.args.node in
    let i = c.index-at.result in
    let at = c.index-at.ensures.next in
    let is = c.self.invariant in
    let world_is = ap (λ (v : WorldView). v.world) c.self.view_is in
    let node = within_of ps net x (rw (← c.self.view_is) at c.requires.node) in
    let site = c.index_mut-process.result.now in
    let p = site.process in
    let here = got sites i site c.index_mut-process.ensures.value in
    let done = c.in_ok-kept_new.ensures in
    subst (λ (l : List Process). IsNetwork s.chain l s.net.nodes) (sym (put sites i c.stop.new.self))
    (subst (λ (q : Process). IsNetwork s.chain (slice_set ps i q) s.net.nodes) (sym done.process)
    (network_stopped s.chain s.net.nodes ps x i p c.args.input.now (keeps_write c.args.calls c.args.image p.node c.args.input.now) is at node.1 here
    (subst (λ (q : Process). IsSameNode p.node.control q.node.control) done.process done.same)))

pub returns-clause-world : goal.returns-clause-world
returns-clause-world c =
    let s = c.self.inside in
    let sites = s.processes.items in
    let ps = processes_of sites in
    let net = s.net.messages in
    let x = c.args.node in
    let i = c.index-at.result in
    let at = c.index-at.ensures.next in
    let is = c.self.invariant in
    let world_is = ap (λ (v : WorldView). v.world) c.self.view_is in
    let node = within_of ps net x (rw (← c.self.view_is) at c.requires.node) in
    let site = c.index_mut-process.result.now in
    let p = site.process in
    let here = got sites i site c.index_mut-process.ensures.value in
    let on : p.up ≡ true = ap (λ (r : Process). r.up) (read_twice ps x i p c.index.result.now.process is.numbered at node.1 here (got sites i c.index.result.now c.index.ensures)) ∙ (sym c.is_up.ensures.up ∙ c.if-not-is_up.false) in
    let was = among_at s.chain s.net.nodes ps x i p is at node.1 here in
    let turned : world_of (processes_of (slice_set sites i c.stop.new.self)) net ≡ stopped_at (world_of ps net) c.args.calls c.args.image (Some (record { at = x; input = c.args.input.now })) =
    ap (λ (l : List Process). world_of l net) (put sites i c.stop.new.self)
    ∙ (ap (λ (q : Process). world_of (slice_set ps i q) net) c.in_ok-kept_new.ensures.process
    ∙ turn_stopped ps net x i p c.args.input.now c.args.calls c.args.image is.numbered at node.1 here on was.limits.0) in
    subst (λ (w : World). world_of (processes_of (slice_set sites i c.stop.new.self)) net ≡ stopped_at w c.args.calls c.args.image (Some (record { at = x; input = c.args.input.now }))) world_is turned

pub returns-clause-word : goal.returns-clause-word
returns-clause-word c =
    let s = c.self.inside in
    let sites = s.processes.items in
    let ps = processes_of sites in
    let net = s.net.messages in
    let x = c.args.node in
    let i = c.index-at.result in
    let at = c.index-at.ensures.next in
    let is = c.self.invariant in
    let world_is = ap (λ (v : WorldView). v.world) c.self.view_is in
    let node = within_of ps net x (rw (← c.self.view_is) at c.requires.node) in
    let site = c.index_mut-process.result.now in
    let p = site.process in
    let here = got sites i site c.index_mut-process.ensures.value in
    let on : p.up ≡ true = ap (λ (r : Process). r.up) (read_twice ps x i p c.index.result.now.process is.numbered at node.1 here (got sites i c.index.result.now c.index.ensures)) ∙ (sym c.is_up.ensures.up ∙ c.if-not-is_up.false) in
    let said : c.stop_word.result ≡ word_of_stop (world_of ps net) c.args.calls c.args.image (Some (record { at = x; input = c.args.input.now })) =
    c.stop_word.ensures ∙ (ap (λ (b : Bool). if b then words.StoppedNew else words.StoppedOld) c.in_ok-kept_new.ensures.kept_new
    ∙ word_stopped ps net x i p c.args.input.now c.args.calls c.args.image is.numbered at node.1 here on) in
    subst (λ (w : World). c.stop_word.result ≡ word_of_stop w c.args.calls c.args.image (Some (record { at = x; input = c.args.input.now }))) world_is said

pub invariant_of-self : goal.invariant_of-self
invariant_of-self c =
    let s = c.self.inside in
    let sites = s.processes.items in
    let i = c.index-at.result in
    subst (λ (l : List Process). IsNetwork s.chain l s.net.nodes) (sym (unchanged sites i c.index_mut-process.result.now c.stop.new.self c.index_mut-process.ensures.value c.in_err-kept_new.ensures.process_err)) c.self.invariant

pub returns-in_err-kept_new-clause-err : goal.returns-in_err-kept_new-clause-err
returns-in_err-kept_new-clause-err c =
    let s = c.self.inside in
    let sites = s.processes.items in
    let i = c.index-at.result in
    let same : world_of (processes_of (slice_set sites i c.stop.new.self)) s.net.messages ≡ c.args.self.now.world =
    ap (λ (l : List Process). world_of l s.net.messages) (unchanged sites i c.index_mut-process.result.now c.stop.new.self c.index_mut-process.ensures.value c.in_err-kept_new.ensures.process_err)
    ∙ ap (λ (v : WorldView). v.world) c.self.view_is in
    on_err c.from_residual.result (world_of (processes_of (slice_set sites i c.stop.new.self)) s.net.messages ≡ c.args.self.now.world) same
