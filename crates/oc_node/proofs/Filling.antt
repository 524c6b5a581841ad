-- A plan that wants no bytes is that of the whole step.
use Rattle.std.proofs.Common.{◌≡◌, Option, None, List, ap, sym, subst, ◌∙◌}
use Rattle.oc_base.specs.Groups.{shelf}
use Rattle.oc_base.specs.declared.shelf.Shelf.{Shelf}
use Rattle.oc_model.specs.declared.input.Input.{Input}
use Rattle.oc_model.specs.declared.message.Message.{Message}
use Rattle.oc_model.specs.declared.want.Want.{Want}
use Rattle.oc_model.specs.Node.{Control, Node}
use Rattle.oc_model.specs.Plan.{Plan}
use Rattle.oc_model.specs.Step.{filled, plan, step}
use Rattle.oc_step.specs.Applying.{HasParts, IsPlanOf, IsStepOf}
use Rattle.oc_step.specs.Planned.{PlanView, planned}

-- the plan of a control state and a shelf is that of each node with these parts
pub plan_of_whole : (n : Node) (v : Control) (lines : List Shelf) (i : Input) (p : PlanView) → planned v p ≡ plan v lines i → HasParts n v lines → IsPlanOf n i p
plan_of_whole n v lines i p made parts =
    subst (λ (ls : List Shelf). planned n.control p ≡ plan n.control ls i) (sym parts.1)
    (subst (λ (k : Control). planned k p ≡ plan k lines i) (sym parts.0) made)

-- a plan that wants no bytes is that of the whole step
pub step_of_none : (n : Node) (i : Input) (p : PlanView) → IsPlanOf n i p → p.wants ≡ None → IsStepOf n i p
step_of_none n i p made none =
    let o : Plan = plan n.control (shelf n.groups) i in
    let wants : o.wants ≡ None = sym (ap (λ (r : Plan). r.wants) made) ∙ none in
    let sends : (step n i).sends ≡ o.sends = ap (λ (w : Option Want). filled w n.groups o.sends) wants in
    made ∙ ap (λ (ms : List Message). record o { sends = ms }) (sym sends)
