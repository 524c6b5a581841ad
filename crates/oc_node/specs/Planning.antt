-- The plan that a node makes for an input.
use Rattle.std.specs.Prelude.{◌≡◌, ◌⊎◌, Some, None, List, []}
use Rattle.oc_base.specs.declared.shelf.Shelf.{Shelf}
use Rattle.oc_laws_step.specs.Frames.{FitsFrame}
use Rattle.oc_model.specs.declared.input.Input.{Input}
use Rattle.oc_model.specs.declared.want.Want.{Want}
use Rattle.oc_model.specs.Node.{Node}
use Rattle.oc_model.specs.Records.{folded}
use Rattle.oc_model.specs.Step.{plan}
use Rattle.oc_step.specs.Applying.{CanApply, HasParts, IsPlanOf, IsStepOf}
use Rattle.oc_step.specs.NodeView.{NodeView}
use Rattle.oc_step.specs.Planned.{PlanView, IsWanting, planned}

-- The plan is the control step of the model, and can be applied with the room that the node has now. Its records fit one frame, and
-- folding them gives the durable state after the step; it writes records or keeps content, never both. It is the plan of the whole step,
-- and the step itself if it wants no bytes.
pub record IsPlanFor (old new : NodeView) (lines : List Shelf) (i : Input) (p : PlanView) : Type 0 where
  pub control : planned old.control p ≡ plan old.control lines i
  pub applies : CanApply new p
  pub folds : (plan old.control lines i).node.kept ≡ folded old.control.kept p.records
  pub frame : FitsFrame p.records
  pub one_file : (p.keeps ≡ None) ⊎ (p.records ≡ [])
  pub wants : (w : Want) → p.wants ≡ Some w → IsWanting p w.count
  pub whole : (n : Node) → HasParts n old.control lines → IsPlanOf n i p
  pub step : (n : Node) → HasParts n old.control lines → p.wants ≡ None → IsStepOf n i p
