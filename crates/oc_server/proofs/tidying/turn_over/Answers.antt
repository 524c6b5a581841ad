use Rattle.std.proofs.Common.{Err, ap}
use Rattle.oc_keep.specs.declared.errors.TidyError.{TidyError}
use Rattle.oc_server.proofs.Turned.{tidied, tidy_stops}
use Rattle.oc_server.proofs.tidying.turn_over.Goals as goal

pub returns-in-Ok-clause-looks : goal.returns-in-Ok-clause-looks
returns-in-Ok-clause-looks g c = tidied g.D.Disk.view c.args.kept.now c.tidy.new.self c.in-Ok.field-0 c.requires.open c.tidy.ensures.keeps c.in-Ok.ensures.turned

pub returns-in-Err-clause-stops : goal.returns-in-Err-clause-stops
returns-in-Err-clause-stops g c =
    let t = c.in-Err.ensures in
    rw c.end_of.ensures
    (tidy_stops g.D.Disk.view (λ x h. g.met.D.Disk.consistent x h) c.args.kept.now c.tidy.new.self c.in-Err.error c.requires.open c.tidy.ensures.keeps
    (λ e. t.closed.0 (ap (λ (x : TidyError). Err x) e)) t.refused c.recovers.ensures.survives)
