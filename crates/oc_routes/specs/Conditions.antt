-- The condition of a request that publishes or seals: the length that its group has to have.
use Rattle.std.specs.Prelude.{ℕ, ◌==◌, if◌then◌else◌, Option, Some, None, option_map, List}
use Rattle.oc_base.specs.declared.shelf.Shelf.{Shelf}
use Rattle.oc_routes.specs.declared.routes.Operation.{Operation}
use Rattle.oc_routes.specs.declared.routes.Operation.TheVariants as asks
use Rattle.oc_routes.specs.Connections.{kept_after}
use Rattle.oc_routes.specs.Refusals.{refusing}
use Rattle.oc_routes.specs.declared.refused.Refused.{Refused}
use Rattle.oc_routes.specs.declared.refused.Refused.TheVariants.{At}
use Rattle.oc_routes.specs.declared.verdict.Refusal.{Refusal}
use Rattle.oc_routes.specs.declared.verdict.Request.{Request}
use Rattle.oc_routes.specs.Waits.{holding}

-- the fault of a request whose group has another length than it says, where it says one
abbrev pub unmet_by : ℕ → Option ℕ → Option Refused
unmet_by held None = None
unmet_by held (Some at) = if held == at then None else Some (At held)

-- likewise at the source, which alone looks at the length; a group that the source does not have has no bytes
abbrev pub unmet_at : ℕ → List ℕ → Option ℕ → List Shelf → Option Refused
unmet_at me group at lines = if me == 1 then unmet_by (holding group lines).held at else None

-- the fault of an operation at the node `me` with this shelf: its group has another length, which the fault tells
abbrev pub unmet_in : Operation → ℕ → List Shelf → Option Refused
unmet_in (asks.Publish group at) me lines = unmet_at me group at lines
unmet_in (asks.Seal group at) me lines = unmet_at me group at lines
unmet_in other me lines = None

-- The refusal of the node `me` with this shelf for the condition of a request, all of which was read.
abbrev pub unmet : Request → ℕ → List Shelf → Option Refusal
unmet request me lines = option_map (refusing (kept_after request.last request.count)) (unmet_in request.asked.operation me lines)
