use Rattle.std.proofs.Common.{◌≡◌, ap, sym, subst, ◌∙◌}
use Rattle.oc_io.specs.MemDiskView.{MemDiskView}
use Rattle.oc_keep.specs.KeptView.{node_of}
use Rattle.oc_model.specs.NextWorld.{stopped}
use Rattle.oc_model.specs.World.{down}
use Rattle.oc_world.specs.declared.process_state.ProcessState.{ProcessState}
use Rattle.oc_world.specs.ProcessView.{ProcessView}
use Rattle.oc_world.specs.ProcessState.{IsStateOf, process_of}
use Rattle.oc_world.proofs.States.{is_up, left_as, left_node, running_is}
use Rattle.oc_world.proofs.process.Process.crash.Goals as goal

pub take_running-kept-requires : goal.take_running-kept-requires
take_running-kept-requires c =
    let s = c.self.inside in
    is_up s.seat.header s.seat.id s.state (ap (λ (p : ProcessView). p.process.up) c.self.view_is ∙ c.requires)

pub crash-files-requires : goal.crash-files-requires
crash-files-requires c =
    let s = c.self.inside in
    (running_is s.seat.header s.seat.id s.state c.take_running-kept.result c.take_running-kept.ensures c.self.invariant.2).is_open

pub invariant_of-self : goal.invariant_of-self
invariant_of-self c =
    let s = c.self.inside in
    let h = s.seat.header in
    let k = c.take_running-kept.result in
    let runs = running_is h s.seat.id s.state k c.take_running-kept.ensures c.self.invariant.2 in
    (c.self.invariant.0, c.self.invariant.1, subst (IsStateOf h s.seat.id) (sym c.set.ensures) (left_as h s.seat.id k (node_of k) c.crash-files.result runs c.crash-files.ensures))

pub returns : goal.returns
returns c =
    let s = c.self.inside in
    let h = s.seat.header in
    let k = c.take_running-kept.result in
    let runs = running_is h s.seat.id s.state k c.take_running-kept.ensures c.self.invariant.2 in
    let same : node_of k ≡ c.args.self.now.process.node = ap (λ (p : ProcessView). p.process.node) (sym (ap (process_of h s.seat.id) c.take_running-kept.ensures) ∙ c.self.view_is) in
    ap (λ (t : ProcessState MemDiskView). (process_of h s.seat.id t).process) c.set.ensures
    ∙ (ap down (left_node h s.seat.id k (node_of k) c.crash-files.result runs c.crash-files.ensures) ∙ ap stopped same)
