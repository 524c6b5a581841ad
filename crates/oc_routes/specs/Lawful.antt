-- Operations are within the ranges of a node's inputs.
use Rattle.std.specs.Prelude.{◌≤◌}
use Rattle.oc_base.specs.Names.{IsGroupName}
use Rattle.oc_base.specs.declared.limits.TheConstants.{MAX_AREA, MAX_START}
use Rattle.oc_routes.specs.Selections.{IsSelection}
use Rattle.oc_routes.specs.declared.hint.Asked.{Asked}
use Rattle.oc_routes.specs.declared.routes.Operation.{Operation}
use Rattle.oc_routes.specs.declared.routes.Operation.TheVariants as operations
use Rattle.oc_routes.specs.declared.routes.Resource.{Resource}
use Rattle.oc_routes.specs.declared.routes.Resource.TheVariants.{Group}

-- a resource that is a group has the name of one
abbrev pub IsResource : Resource → Type 0
IsResource (Group group) = IsGroupName group
IsResource resource = Unit {0}

-- an operation whose group has the name of one, and whose start and area are within their ranges
abbrev pub IsAsked : Operation → Type 0
IsAsked (operations.Publish group at) = IsGroupName group
IsAsked (operations.Seal group at) = IsGroupName group
IsAsked (operations.Client group area start manner) = (area ≤ MAX_AREA) × (start ≤ MAX_START) × IsGroupName group
IsAsked other = Unit {0}

-- an operation within its ranges, with a part that can be given
pub record IsAsking (asked : Asked) : Type 0 where
  pub operation : IsAsked asked.operation
  pub selection : IsSelection asked.selection
