-- the rest is escaped well where all is
use Rattle.std.proofs.Common.{◌≡◌, length}
use Rattle.oc_http.specs.Escapes.{is_escaped_well}
use Rattle.oc_http.proofs.escapes.is_escaped_well.Given as goal

abbrev pub invariant-bytes : goal.invariant-bytes
invariant-bytes l = is_escaped_well l.rest ≡ is_escaped_well l.path

abbrev pub decreases-bytes : goal.decreases-bytes
decreases-bytes l = length l.rest
