-- the rest closes where all do
use Rattle.std.proofs.Common.{◌≡◌, length}
use Rattle.oc_http.specs.Fields.{closes}
use Rattle.oc_http.proofs.fields.Fields.closes.Given as goal

abbrev pub invariant-fields : goal.invariant-fields
invariant-fields l = closes l.fields ≡ closes l.self

abbrev pub decreases-fields : goal.decreases-fields
decreases-fields l = length l.fields
