-- The result of the search for Host decides.
use Rattle.std.proofs.Common.{◌≡◌, Bool, true, false, refl, sym, ap, ◌∙◌}
use Rattle.std.specs.Prelude.{◌&&◌, not}
use Rattle.oc_http.specs.Fields.{has_host_fault}
use Rattle.oc_http.proofs.fields.Fields.has_host_fault.Goals as goal

-- a test beside one that holds
beside : (b : Bool) → b ≡ (b && not false)
beside true = refl
beside false = refl

pub returns-in-Absent : goal.returns-in-Absent
returns-in-Absent c = beside _ ∙ sym (ap (has_host_fault c.args.minor) c.in-Absent.ensures)

pub returns-in-Several : goal.returns-in-Several
returns-in-Several c = sym (ap (has_host_fault c.args.minor) c.in-Several.ensures.2)
