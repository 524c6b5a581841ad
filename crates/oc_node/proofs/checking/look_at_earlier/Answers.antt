use Rattle.std.proofs.Common.{ap, ◌∙◌}
use Rattle.oc_step.specs.StepView.{StepView}
use Rattle.oc_node.proofs.Looks.{looks_go_on}
use Rattle.oc_node.proofs.checking.look_at_earlier.Goals as goal

pub loop-earlier-preserved : goal.loop-earlier-preserved
loop-earlier-preserved c = (
  ap (λ (d : StepView). d.base) c.in_ok-look_past.ensures ∙ c.loop-earlier.invariant.0,
  looks_go_on c.args.other c.loop-earlier.earlier c.loop-earlier.step.plan c.look_past.new.step.plan _ c.loop-earlier-test.true (ap (λ (d : StepView). d.plan) c.in_ok-look_past.ensures) c.loop-earlier.invariant.1,
)
