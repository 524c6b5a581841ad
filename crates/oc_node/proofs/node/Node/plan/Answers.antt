use Rattle.std.proofs.Common.{◌≡◌, ◌<◌, length, ap, sym, subst, ◌∙◌}
use Rattle.oc_laws_step.specs.Frames.{FitsFrame}
use Rattle.oc_step.specs.NodeView.{NodeView, IsReached, control_of}
use Rattle.oc_state.specs.Volatile.{soft_of}
use Rattle.oc_step.specs.Applying.{HaveRoom}
use Rattle.oc_node.proofs.Applying.{control_same, have_room, rooms_of}
use Rattle.oc_node.proofs.Filling.{plan_of_whole, step_of_none}
use Rattle.oc_node.proofs.Plans.{plan_wants}
use Rattle.oc_node.proofs.Reaching.{frame_fits, one_file, plan_applies, plan_folds}
use Rattle.oc_node.proofs.node.Node.plan.Goals as goal

pub invariant_of-self : goal.invariant_of-self
invariant_of-self c =
    let n = c.self.inside in
    let more = c.reserve_for.ensures in (
      more.nodes ∙ c.self.invariant.0,
      subst IsReached (sym (control_same n.id n.nodes n.chain n.chunk n.areas.items (soft_of n.volatile n.tries) n.durable.kept _ n.leases.ends _ n.rates.items _ n.counts.items _ more.kept more.ends more.rates more.counts)) c.self.invariant.1,
    )

pub invariant_of-self-2 : goal.invariant_of-self-2
invariant_of-self-2 c =
    let n = c.self.inside in
    let more = c.reserve_for.ensures in (
      more.nodes ∙ c.self.invariant.0,
      subst IsReached (sym (control_same n.id n.nodes n.chain n.chunk n.areas.items (soft_of n.volatile n.tries) n.durable.kept _ n.leases.ends _ n.rates.items _ n.counts.items _ more.kept more.ends more.rates more.counts)) c.self.invariant.1,
    )

pub returns-clause-node : goal.returns-clause-node
returns-clause-node c =
    let n = c.self.inside in
    let more = c.reserve_for.ensures in
    control_same n.id n.nodes n.chain n.chunk n.areas.items (soft_of n.volatile n.tries) n.durable.kept _ n.leases.ends _ n.rates.items _ n.counts.items _ more.kept more.ends more.rates more.counts ∙ ap (λ (v : NodeView). v.control) c.self.view_is

-- each promise of the plan that was made
pub returns-clause-made : goal.returns-clause-made
returns-clause-made c = record {
  control = c.in_ok-plan.ensures.plan;
  applies = let n = c.self.inside in
      let p = c.in_ok-plan.plan in
      let more = c.reserve_for.ensures in
      let kept = c.reserve_for.new.durable.kept in
      let sound = c.self.invariant.1.sound in
      let reached : IsReached c.args.self.now.control = subst (λ (v : NodeView). IsReached v.control) c.self.view_is c.self.invariant.1 in
      let fits : FitsFrame p.records = frame_fits c.args.self.now.control c.args.shelf.now c.args.input.now p reached c.requires.shelf c.requires.input c.in_ok-plan.ensures.plan in
      let same = control_same n.id n.nodes n.chain n.chunk n.areas.items (soft_of n.volatile n.tries) n.durable.kept _ n.leases.ends _ n.rates.items _ n.counts.items _ more.kept more.ends more.rates more.counts ∙ ap (λ (v : NodeView). v.control) c.self.view_is in
      let lists = have_room p.updates n.nodes c.reserve_for.new.leases c.reserve_for.new.rates c.reserve_for.new.counts (ap length more.ends ∙ sound.leases) (ap length more.rates ∙ sound.rates) (ap length more.counts ∙ sound.counts) c.in_ok-reserve_for.ensures.leases_room c.in_ok-reserve_for.ensures.rates_room c.in_ok-reserve_for.ensures.counts_room in
      plan_applies c.args.self.now _ c.args.shelf.now c.args.input.now p reached c.requires.shelf c.requires.input c.in_ok-plan.ensures.plan c.in_ok-plan.ensures.updates fits c.requires.log same c.in_ok-reserve_for.ensures.records
      (subst (λ (v : NodeView). 0 < length p.updates → HaveRoom v.control.nodes (rooms_of c.reserve_for.new.leases c.reserve_for.new.rates c.reserve_for.new.counts)) c.self.view_is lists);
  folds = plan_folds c.args.self.now.control c.args.shelf.now c.args.input.now c.in_ok-plan.plan c.in_ok-plan.ensures.plan;
  frame = let reached : IsReached c.args.self.now.control = subst (λ (v : NodeView). IsReached v.control) c.self.view_is c.self.invariant.1 in
      frame_fits c.args.self.now.control c.args.shelf.now c.args.input.now c.in_ok-plan.plan reached c.requires.shelf c.requires.input c.in_ok-plan.ensures.plan;
  one_file = one_file c.args.self.now.control c.args.shelf.now c.args.input.now c.in_ok-plan.plan c.in_ok-plan.ensures.plan;
  wants = plan_wants c.args.self.now.control c.args.shelf.now c.args.input.now c.in_ok-plan.plan c.in_ok-plan.ensures.plan c.in_ok-plan.ensures.room;
  whole = λ n. plan_of_whole n c.args.self.now.control c.args.shelf.now c.args.input.now c.in_ok-plan.plan c.in_ok-plan.ensures.plan;
  step = λ n parts. step_of_none n c.args.input.now c.in_ok-plan.plan (plan_of_whole n c.args.self.now.control c.args.shelf.now c.args.input.now c.in_ok-plan.plan c.in_ok-plan.ensures.plan parts);
}
