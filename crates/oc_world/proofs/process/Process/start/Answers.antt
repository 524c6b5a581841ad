use Rattle.std.proofs.Common.{◌≡◌, true, false, ap, sym, subst, ◌∙◌}
use Rattle.oc_io.specs.MemDiskView.{MemDiskView}
use Rattle.oc_model.specs.Node.{Node, restarted}
use Rattle.oc_model.specs.World.{Process}
use Rattle.oc_world.specs.declared.process_state.ProcessState.{ProcessState}
use Rattle.oc_world.specs.ProcessView.{ProcessView}
use Rattle.oc_world.specs.ProcessState.{IsStateOf, process_of}
use Rattle.oc_world.proofs.States.{down_anew, runs_as}
use Rattle.oc_world.proofs.process.Process.start.Goals as goal

pub invariant_of-self : goal.invariant_of-self
invariant_of-self c =
    let s = c.self.inside in
    let h = s.seat.header in
    let runs = rw (← c.self.view_is) at c.in_ok-kept.ensures.running in
    (c.self.invariant.0, c.self.invariant.1, subst (IsStateOf h s.seat.id) (sym c.set.ensures) (runs_as h s.seat.id s.state c.in_ok-kept.kept c.self.invariant.2 runs))

pub returns-clause-ok : goal.returns-clause-ok
returns-clause-ok c =
    let s = c.self.inside in
    let h = s.seat.header in
    let anew : restarted c.args.self.now.process.node ≡ c.args.self.now.process.node =
    subst (λ (p : ProcessView). p.process.up ≡ false → restarted p.process.node ≡ p.process.node) c.self.view_is (down_anew h s.seat.id s.state) c.requires in
    let new : Node → Process = λ (n : Node). record { node = n; up = true } in
    ap (λ (t : ProcessState MemDiskView). (process_of h s.seat.id t).process) c.set.ensures ∙ ap new (c.in_ok-kept.ensures.node ∙ sym anew)
