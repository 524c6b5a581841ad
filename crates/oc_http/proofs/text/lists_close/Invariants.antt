-- the rest lists `close` where all does
use Rattle.std.proofs.Common.{◌≡◌, length}
use Rattle.oc_http.specs.Fields.{lists_close}
use Rattle.oc_http.proofs.text.lists_close.Given as goal

abbrev pub invariant-parts : goal.invariant-parts
invariant-parts l = lists_close l.rest ≡ lists_close l.value

abbrev pub decreases-parts : goal.decreases-parts
decreases-parts l = length l.rest
