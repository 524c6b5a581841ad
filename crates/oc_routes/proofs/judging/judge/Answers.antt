use Rattle.std.proofs.Common.{◌≡◌, Some, sym, ◌∙◌}
use Rattle.oc_routes.specs.declared.fault.RouteFault.TheVariants.{Refused}
use Rattle.oc_routes.specs.Verdicts.{fault_met, terms_of}
use Rattle.oc_routes.proofs.BodyFits.{says_fits}
use Rattle.oc_routes.proofs.Unread.{refused_verdict}
use Rattle.oc_routes.specs.declared.rest.Rest.{Rest}
use Rattle.oc_routes.proofs.judging.judge.Goals as goal

pub after_head-requires-clause-body : goal.after_head-requires-clause-body
after_head-requires-clause-body c = says_fits (λ (s : Rest). s.left.now) c.of-source.result c.read_head.new.source c.in-Ok.head c.in-Ok.ensures.read

pub returns-in-Some-Refused-clause-verdict : goal.returns-in-Some-Refused-clause-verdict
returns-in-Some-Refused-clause-verdict c =
    let is = sym c.fault_met.ensures ∙ c.in-Some-Refused.is in
    let field = c.in-Some-Refused.field-0-is in
    let read = c.in-Some-Refused.why-is in
    let met : fault_met c.in-Err.fault ≡ Some (Refused c.in-Some-Refused.why) = cc in
    refused_verdict (λ (s : Rest). s.left.now) c.of-source.result c.read_head.new.source (terms_of c.args.terms.now.me c.args.terms.now.nodes c.args.terms.now.rules.now _) c.args.arrival
    c.in-Err.fault c.in-Some-Refused.why c.args.bytes.now _ c.in-Err.ensures.refused met (sym c.of-source.ensures) cc
