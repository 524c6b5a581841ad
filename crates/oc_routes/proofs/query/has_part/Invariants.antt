use Rattle.std.proofs.Common.{◌≡◌, length}
use Rattle.oc_http.specs.Queries.{parts}
use Rattle.oc_routes.specs.Queries.{has_part}
use Rattle.oc_routes.proofs.query.has_part.Given as goal

-- the part is in the rest where it is in the whole
abbrev pub invariant-parts : goal.invariant-parts
invariant-parts l = has_part l.name (parts l.rest) ≡ has_part l.name (parts l.fn.query)

abbrev pub decreases-parts : goal.decreases-parts
decreases-parts l = length l.rest
