use Rattle.oc_base.specs.Words.{words}
use Rattle.oc_schedule.proofs.WithinLimits.{header_limited}
use Rattle.oc_schedule.proofs.schedule_text.read_header.Goals as goal

-- a header alone passes no limit
pub returns-in-Ok : goal.returns-in-Ok
returns-in-Ok c = λ scale. header_limited scale c.args.number (words c.args.line.now) c.in-Ok.builder.schedule c.in-Ok.ensures
