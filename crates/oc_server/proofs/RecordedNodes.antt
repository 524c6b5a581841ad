-- A node whose areas stay as they are.
use Rattle.std.proofs.Common.{◌≡◌, ◌∙◌, ℕ, List, [], ◌∷◌, refl, ap}
use Rattle.oc_base.specs.Groups.{shelf}
use Rattle.oc_laws_step.proofs.Goes.{IsSame}
use Rattle.oc_laws_step.proofs.Steps.{writes}
use Rattle.oc_keep.specs.Trials.{after_inputs}
use Rattle.oc_model.specs.declared.input.Input.{Input}
use Rattle.oc_model.specs.Node.{Node}
use Rattle.oc_model.specs.Step.{step}
use Rattle.oc_node.specs.Areas.{with_areas}
use Rattle.oc_deeds.specs.Areas.{areas_among, with_areas_of}
use Rattle.oc_deeds.specs.Changes.{KeepAreas, after_changes, changes_of}
use Rattle.oc_deeds.specs.Deeds.{Accepts, Deed, Rereads, Takes, inputs_of}
use Rattle.oc_deeds.proofs.ChangesOf.{keep_same}

-- a step keeps the areas
step_same : (n : Node) (i : Input) → IsSame n.control (step n i).node.control
step_same n i = (writes n.control (shelf n.groups) i).same

after_step : (n : Node) (i : Input) (ds : List Deed) → KeepAreas n.control ds → KeepAreas (step n i).node.control ds
after_step n i ds keep = let same = step_same n i in keep_same (step n i).node.control n.control same.nodes same.areas ds keep

-- areas that are those of before
areas_still : (n : Node) (areas : List ℕ) → areas_among n.control.nodes areas ≡ n.control.areas → with_areas_of areas n ≡ n
areas_still n areas same = ap (λ (xs : List ℕ). record n { control = with_areas xs n.control }) same

pub recorded_node : (n : Node) (ds : List Deed) → KeepAreas n.control ds → after_changes n (changes_of ds) ≡ after_inputs n (inputs_of ds)
recorded_node n [] keep = refl
recorded_node n (Takes i ∷ ds) keep = recorded_node (step n i).node ds (after_step n i ds keep.1)
recorded_node n (Accepts i ∷ ds) keep = recorded_node (step n i).node ds (after_step n i ds keep.1)
recorded_node n (Rereads config ∷ ds) keep = ap (λ (m : Node). after_changes m (changes_of ds)) (areas_still n config.areas keep.0) ∙ recorded_node n ds keep.1
recorded_node n (d ∷ ds) keep = recorded_node n ds keep.1
