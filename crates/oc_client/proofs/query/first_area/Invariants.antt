use denote.Shadow.{shadow}
use denote.Text.{Utf8}
use Rattle.std.proofs.Common.{◌≡◌, codes, length}
use Rattle.oc_client.proofs.query.first_area.Given as goal
use Rattle.oc_client.specs.Queries.{first_value}
use Rattle.oc_http.specs.Queries.{parts}

-- the answer of the rest is that of the whole
abbrev pub invariant-parts : goal.invariant-parts
invariant-parts l = (first_value (codes "area=") (parts l.rest) ≡ first_value (codes "area=") (parts l.fn.query)) × shadow (Utf8 l.rest)

abbrev pub decreases-parts : goal.decreases-parts
decreases-parts l = length l.rest
