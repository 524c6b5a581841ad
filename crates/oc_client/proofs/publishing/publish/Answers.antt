use Rattle.std.proofs.Common.{Err, ap, length, arith}
use Rattle.oc_client.proofs.publishing.publish.Goals as goal

pub returns-in-Err-clause-told : goal.returns-in-Err-clause-told
returns-in-Err-clause-told g c = λ e. absurd (c.in-Err.ensures.unfinished (ap Err e))

pub returns-in-Ok-clause-within : goal.returns-in-Ok-clause-within
returns-in-Ok-clause-within g c =
    let told = c.in-Ok.ensures.told in
    record { came = told.0; gave = told.1; more = length told.0; within = omega arith; grew = told.2 }
