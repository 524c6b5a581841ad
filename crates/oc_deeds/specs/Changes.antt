-- The changes of a node by deeds.
use Rattle.std.specs.Prelude.{◌≡◌, ℕ, Option, None, Some, List, [], ◌∷◌}
use Rattle.std.specs.List.{AllByRecursion}
use Rattle.oc_model.specs.declared.input.Input.{Input}
use Rattle.oc_model.specs.Node.{Control, Node}
use Rattle.oc_model.specs.Step.{step}
use Rattle.oc_deeds.specs.Areas.{areas_among, with_areas_of}
use Rattle.oc_deeds.specs.Deeds.{Accepts, Deed, Rereads, Takes}

-- an input that is taken, or the areas of a configuration that is gone by from now on
pub data Change : Type 0 where
  ByInput : Input → Change
  ByAreas : List ℕ → Change

abbrev pub deed_change : Deed → Option Change
deed_change (Takes i) = Some (ByInput i)
deed_change (Accepts i) = Some (ByInput i)
deed_change (Rereads config) = Some (ByAreas config.areas)
deed_change d = None

abbrev pub with_change : Option Change → List Change → List Change
with_change None cs = cs
with_change (Some c) cs = c ∷ cs

-- the changes of deeds, in their order
abbrev pub changes_of : List Deed → List Change
changes_of [] = []
changes_of (d ∷ ds) = with_change (deed_change d) (changes_of ds)

abbrev pub after_change : Node → Change → Node
after_change n (ByInput i) = (step n i).node
after_change n (ByAreas areas) = with_areas_of areas n

-- the node after changes, one after another
abbrev pub after_changes : Node → List Change → Node
after_changes n [] = n
after_changes n (c ∷ cs) = after_changes (after_change n c) cs

-- the deed leaves the areas of the node as they are
abbrev pub KeepsAreas : Control → Deed → Type 0
KeepsAreas n (Rereads config) = areas_among n.nodes config.areas ≡ n.areas
KeepsAreas n d = Unit {0}

abbrev pub KeepAreas : Control → List Deed → Type 0
KeepAreas n ds = AllByRecursion (KeepsAreas n) ds
