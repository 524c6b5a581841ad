-- The step under way, from its beginning.
use Rattle.std.proofs.Common.{◌≡◌, List, ap, subst, ◌∙◌}
use Rattle.oc_base.specs.declared.shelf.Shelf.{Shelf}
use Rattle.oc_model.specs.declared.input.Input.{Input}
use Rattle.oc_model.specs.Node.{Control}
use Rattle.oc_model.specs.Plan.{Plan, begun}
use Rattle.oc_model.specs.Step.{plan, taken}
use Rattle.oc_step.specs.StepView.{StepView, goes}
use Rattle.oc_step.specs.Planned.{PlanView, planned}
use Rattle.oc_step.specs.Since.{AreTold}

abbrev mk : Control → Plan → StepView
mk n o = record { base = n; plan = o }

-- a step with this base and this plan
pub both : (d e : StepView) (o : Plan) → d.base ≡ e.base → d.plan ≡ o → d ≡ goes e o
both d e o base step =
    let one : mk d.base d.plan ≡ mk e.base d.plan = ap (λ (n : Control). mk n d.plan) base in
    one ∙ ap (λ (p : Plan). mk e.base p) step

-- The beginning of a step

pub begun_told : (n : Control) (o : Plan) → o ≡ begun n → AreTold o.records
begun_told n o e = rw e tt

pub begun_table : (n : Control) (o : Plan) → o ≡ begun n → o.node.kept.table ≡ n.kept.table
begun_table n o e = rw e

pub begun_log : (n : Control) (o : Plan) → o ≡ begun n → o.node.kept.log ≡ n.kept.log
begun_log n o e = rw e

-- The end of a step

-- a step that went on is of the same node
pub base_after : (n : Control) (d e : StepView) (o : Plan) → d.base ≡ n → e ≡ goes d o → e.base ≡ n
base_after n d e o base made = ap (λ (x : StepView). x.base) made ∙ base

-- the plan is the result of a step under way that began at the node and took the input
pub plan_made : (n : Control) (d e : StepView) (p : PlanView) (lines : List Shelf) (i : Input) → d.base ≡ n → d.plan ≡ begun n → e ≡ goes d (taken d.plan lines i) → planned e.base p ≡ e.plan → planned n p ≡ plan n lines i
plan_made n d e p lines i base step made done =
    let here : planned n p ≡ e.plan = subst (λ (k : Control). planned k p ≡ e.plan) (base_after n d e (taken d.plan lines i) base made) done in
    here ∙ ap (λ (x : StepView). x.plan) made ∙ ap (λ (o : Plan). taken o lines i) step
