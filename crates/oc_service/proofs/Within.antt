-- The inputs that were taken are within their ranges.
use Rattle.std.proofs.Common.{ℕ, List, [], ◌∷◌, subst}
use Rattle.std.specs.List.{AllByRecursion}
use Rattle.oc_io.specs.DiskView.{DiskView}
use Rattle.oc_keep.specs.KeptView.{KeptView, going_by}
use Rattle.oc_keep.specs.Promises.{IsSameNode}
use Rattle.oc_model.specs.declared.input.Input.{Input}
use Rattle.oc_model.specs.Node.{Header}
use Rattle.oc_server.specs.Scenes.{KeepsAll}
use Rattle.oc_deeds.specs.Areas.{areas_among}
use Rattle.oc_deeds.specs.Changes.{ByAreas, ByInput, Change, changes_of}
use Rattle.oc_deeds.specs.Deeds.{Accepts, Deed, Rereads, Takes, inputs_of}
use Rattle.oc_deeds.specs.Within.{IsWithin}

-- the input of a change, within its ranges
abbrev IsWithinBy : ℕ → ℕ → Change → Type 0
IsWithinBy nodes me (ByInput i) = IsWithin nodes me i
IsWithinBy nodes me (ByAreas areas) = Unit {0}

-- a change is within the ranges at a moment of the same node
within_same : {D : Type 0} (x : Change) (old new : KeptView D) → IsSameNode old.node.control new.node.control
    → IsWithinBy new.node.control.nodes new.node.control.me x → IsWithinBy old.node.control.nodes old.node.control.me x
within_same x old new same within =
    subst (λ (h : Header). IsWithinBy h.nodes old.node.control.me x) same.header (subst (λ (me : ℕ). IsWithinBy new.node.control.nodes me x) same.me within)

all_same : {D : Type 0} (xs : List Change) (old new : KeptView D) → IsSameNode old.node.control new.node.control
    → AllByRecursion (IsWithinBy new.node.control.nodes new.node.control.me) xs → AllByRecursion (IsWithinBy old.node.control.nodes old.node.control.me) xs
all_same [] old new same all = tt
all_same (x ∷ xs) old new same all = (within_same x old new same (all.0), all_same xs old new same (all.1))

changes_within : {D : Type 0} (view : D → DiskView) (xs : List Change) (old new : KeptView D) → KeepsAll view xs old new → AllByRecursion (IsWithinBy old.node.control.nodes old.node.control.me) xs
changes_within view [] old new looks = tt
changes_within view (ByInput i ∷ xs) old new (at, next, outcome, looks, one, rest) =
    (within_same (ByInput i) old at looks.same one.within, all_same xs old at looks.same (all_same xs at next one.same (changes_within view xs next new rest)))
changes_within view (ByAreas areas ∷ xs) old new (at, looks, rest) =
    (tt, all_same xs old at looks.same (changes_within view xs (going_by (areas_among at.node.control.nodes areas) at) new rest))

inputs_within : (nodes me : ℕ) (ds : List Deed) → AllByRecursion (IsWithinBy nodes me) (changes_of ds) → AllByRecursion (IsWithin nodes me) (inputs_of ds)
inputs_within nodes me [] all = tt
inputs_within nodes me (Takes i ∷ ds) all = (all.0, inputs_within nodes me ds all.1)
inputs_within nodes me (Accepts i ∷ ds) all = (all.0, inputs_within nodes me ds all.1)
inputs_within nodes me (Rereads config ∷ ds) all = inputs_within nodes me ds all.1
inputs_within nodes me (d ∷ ds) all = inputs_within nodes me ds all

-- the inputs of deeds
pub kept_within : {D : Type 0} (view : D → DiskView) (ds : List Deed) (old new : KeptView D) → KeepsAll view (changes_of ds) old new → AllByRecursion (IsWithin old.node.control.nodes old.node.control.me) (inputs_of ds)
kept_within view ds old new keeps = inputs_within old.node.control.nodes old.node.control.me ds (changes_within view (changes_of ds) old new keeps)
