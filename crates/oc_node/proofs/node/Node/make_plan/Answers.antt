use Rattle.std.proofs.Common.{ap, sym, subst, ◌∙◌}
use Rattle.std.specs.List.{AllByRecursion}
use Rattle.oc_model.specs.Lawful.{IsInput}
use Rattle.oc_model.specs.Node.{Control}
use Rattle.oc_model.specs.Plan.{begun}
use Rattle.oc_state.specs.ListUpdates.{IsListUpdate}
use Rattle.oc_node.proofs.Steps.{base_after, plan_made}
use Rattle.oc_node.proofs.node.Node.make_plan.Goals as goal

pub take-requires-clause-begun : goal.take-requires-clause-begun
take-requires-clause-begun c = c.of-step.ensures.plan ∙ sym (ap begun c.of-step.ensures.base)

pub take-requires-clause-input : goal.take-requires-clause-input
take-requires-clause-input c = subst (λ (n : Control). IsInput n.nodes n.me c.args.input.now) (sym (c.of-step.ensures.base ∙ c.lend.ensures)) c.requires.input

pub returns-clause-plan : goal.returns-clause-plan
returns-clause-plan c = plan_made c.args.self.now.control c.of-step.result c.take.new.step c.done.result c.args.shelf.now c.args.input.now (c.of-step.ensures.base ∙ c.lend.ensures) (c.of-step.ensures.plan ∙ ap begun c.lend.ensures) c.in_ok-take.ensures c.done.ensures.plan

pub returns-clause-updates : goal.returns-clause-updates
returns-clause-updates c = subst (λ (n : Control). AllByRecursion (IsListUpdate n.nodes) c.done.result.updates) (base_after c.args.self.now.control c.of-step.result c.take.new.step _ (c.of-step.ensures.base ∙ c.lend.ensures) c.in_ok-take.ensures) c.done.ensures.updates
