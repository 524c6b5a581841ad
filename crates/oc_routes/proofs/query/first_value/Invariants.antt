use Rattle.std.proofs.Common.{◌≡◌, length}
use Rattle.oc_http.specs.Queries.{parts}
use Rattle.oc_routes.specs.Queries.{first_value}
use Rattle.oc_routes.proofs.query.first_value.Given as goal

-- the value in the rest is that in the whole
abbrev pub invariant-parts : goal.invariant-parts
invariant-parts l = first_value l.name (parts l.rest) ≡ first_value l.name (parts l.fn.query)

abbrev pub decreases-parts : goal.decreases-parts
decreases-parts l = length l.rest
