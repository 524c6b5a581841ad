-- the values so far and those of the rest are all
use Rattle.std.proofs.Common.{◌≡◌, ◌++◌, length}
use Rattle.oc_http.specs.Fields.{values}
use Rattle.oc_http.proofs.fields.Fields.all.Given as goal

abbrev pub invariant-fields : goal.invariant-fields
invariant-fields l = l.items.items ++ values l.name l.fields ≡ values l.name l.self

abbrev pub decreases-fields : goal.decreases-fields
decreases-fields l = length l.fields
