use Rattle.std.proofs.Common.{refl, take}
use Rattle.oc_server.proofs.Takes.{front_of}
use Rattle.oc_server.proofs.noting.write_line.Goals as goal

pub returns-in-Err-clause-stops : goal.returns-in-Err-clause-stops
returns-in-Err-clause-stops g c =
    let failed = c.in-Err.ensures.fails in
    (take failed.0 c.args.line.now, front_of failed.0 c.args.line.now c.args.line.now refl, failed.2, c.in-Err.ensures.cause)
