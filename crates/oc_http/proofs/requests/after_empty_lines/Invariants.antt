-- the rest and the whole are the same without empty lines
use Rattle.std.proofs.Common.{◌≡◌, length}
use Rattle.oc_http.specs.Requests.{after_empty_lines}
use Rattle.oc_http.proofs.requests.after_empty_lines.Given as goal

abbrev pub invariant-lines : goal.invariant-lines
invariant-lines l = after_empty_lines l.rest ≡ after_empty_lines l.bytes

abbrev pub decreases-lines : goal.decreases-lines
decreases-lines l = length l.rest
