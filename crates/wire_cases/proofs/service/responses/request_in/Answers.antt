use Rattle.std.proofs.Common.{subst}
use Rattle.oc_routes.specs.Asks.{IsLawfulVerdict}
use Rattle.wire_cases.proofs.service.responses.request_in.Goals as goal

pub returns-in_ok-settled-in-Ask : goal.returns-in_ok-settled-in-Ask
returns-in_ok-settled-in-Ask c =
    let lawful = subst (λ v. IsLawfulVerdict 3 1 v) c.in-Ask.is c.in_ok-request.ensures in
    (c.in_ok-settled-in-Ask.ensures.lawful 3 1 lawful.0 lawful.1).asks
