use Rattle.std.proofs.Common.{◌≡◌, refl, Ok, sym, ◌∙◌, ap}
use Rattle.oc_base.specs.Names.{name_fault}
use Rattle.oc_policy.proofs.Within.{named_from_parse}
use Rattle.oc_policy.proofs.prefix.Prefix.parse.Goals as goal

pub invariant_of-result-in_default : goal.invariant_of-result-in_default
invariant_of-result-in_default c = λ name is.
    let parsed = c.in_ok-parse-in_default.ensures in
    let same : c.in_ok-parse-in_default.field-0 ≡ name = cc is in
    named_from_parse c.args.bytes.now name (name_fault c.args.bytes.now) (sym parsed ∙ ap Ok same) refl
