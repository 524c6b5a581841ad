use Rattle.std.proofs.Common.{◌≡◌, ◌&&◌, if◌then◌else◌, ap, sym, subst, ◌∙◌}
use Rattle.oc_base.specs.Stops.{is_kept_new}
use Rattle.oc_io.specs.MemDiskView.{MemDiskView}
use Rattle.oc_keep.specs.KeptView.{node_of}
use Rattle.oc_keep.specs.ReadyView.{is_written, outcome_of}
use Rattle.oc_model.specs.NextWorld.{stopped}
use Rattle.oc_model.specs.Node.{Node}
use Rattle.oc_model.specs.World.{Process, down}
use Rattle.oc_world.specs.declared.process_state.ProcessState.{ProcessState}
use Rattle.oc_world.specs.ProcessView.{CanCommitTo, ProcessView}
use Rattle.oc_world.specs.ProcessState.{IsStateOf, process_of}
use Rattle.oc_world.proofs.Cuts.{kept_as}
use Rattle.oc_world.proofs.States.{can_commit, is_up, left_as, left_node, running_is}
use Rattle.oc_world.proofs.process.Process.stop.Goals as goal

pub take_running-kept-requires : goal.take_running-kept-requires
take_running-kept-requires c =
    let s = c.self.inside in
    is_up s.seat.header s.seat.id s.state (ap (λ (p : ProcessView). p.process.up) c.self.view_is ∙ (ap (λ (p : Process). p.up) c.in_ok-ready.ensures.process ∙ c.requires.up))

pub stop-files-requires-clause-open : goal.stop-files-requires-clause-open
stop-files-requires-clause-open c =
    let s = c.self.inside in
    (running_is s.seat.header s.seat.id s.state c.take_running-kept.result c.take_running-kept.ensures c.self.invariant.2).is_open

pub stop-files-requires-clause-ready : goal.stop-files-requires-clause-ready
stop-files-requires-clause-ready c =
    let s = c.self.inside in
    can_commit s.seat.header s.seat.id s.state c.take_running-kept.result c.in_ok-ready.ready c.take_running-kept.ensures
    (subst (λ (p : ProcessView). CanCommitTo p.kept c.in_ok-ready.ready) (sym c.self.view_is) c.in_ok-ready.ensures.commits)

pub invariant_of-self : goal.invariant_of-self
invariant_of-self c =
    let s = c.self.inside in
    let h = s.seat.header in
    let k = c.take_running-kept.result in
    let r = c.in_ok-ready.ready in
    let runs = running_is h s.seat.id s.state k c.take_running-kept.ensures c.self.invariant.2 in
    let left : Node = if is_written r.write && is_kept_new c.args.calls c.args.image then (outcome_of (node_of k) r).node else node_of k in
    (c.self.invariant.0, c.self.invariant.1, subst (IsStateOf h s.seat.id) (sym c.set.ensures) (left_as h s.seat.id k left c.stop-files.result runs c.stop-files.ensures))

pub returns-clause-process : goal.returns-clause-process
returns-clause-process c =
    let s = c.self.inside in
    let h = s.seat.header in
    let k = c.take_running-kept.result in
    let r = c.in_ok-ready.ready in
    let runs = running_is h s.seat.id s.state k c.take_running-kept.ensures c.self.invariant.2 in
    let after : Node → Node = λ (n : Node). if is_written r.write && is_kept_new c.args.calls c.args.image then (outcome_of n r).node else n in
    let same : node_of k ≡ c.args.self.now.process.node =
    ap (λ (p : ProcessView). p.process.node) (sym (ap (process_of h s.seat.id) c.take_running-kept.ensures) ∙ c.self.view_is) ∙ ap (λ (p : Process). p.node) c.in_ok-ready.ensures.process in
    ap (λ (t : ProcessState MemDiskView). (process_of h s.seat.id t).process) c.set.ensures
    ∙ (ap down (left_node h s.seat.id k (after (node_of k)) c.stop-files.result runs c.stop-files.ensures)
    ∙ (ap (λ (n : Node). stopped (after n)) same
    ∙ ap stopped (kept_as c.args.self.now.process.node r c.args.input.now c.args.calls c.args.image c.in_ok-ready.ensures.step c.in_ok-ready.ensures.writes)))
