use denote.Shadow.{shadow}
use denote.Text.{Utf8}
use Rattle.std.proofs.Common.{◌≡◌, length}
use Rattle.oc_client.proofs.query.first_start.Given as goal
use Rattle.oc_client.specs.Queries.{first_start}
use Rattle.oc_http.specs.Queries.{parts}

-- the answer of the rest is that of the whole
abbrev pub invariant-parts : goal.invariant-parts
invariant-parts l = (first_start (parts l.rest) ≡ first_start (parts l.fn.query)) × shadow (Utf8 l.rest)

abbrev pub decreases-parts : goal.decreases-parts
decreases-parts l = length l.rest
