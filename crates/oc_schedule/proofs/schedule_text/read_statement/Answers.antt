use Rattle.std.proofs.Common.{ℕ, List, Option, subst, sym}
use Rattle.oc_base.specs.Words.{words}
use Rattle.oc_schedule.specs.declared.builder.ScheduleBuilder.{ScheduleBuilder}
use Rattle.oc_schedule.specs.Builder.{script_of}
use Rattle.oc_schedule.specs.Reading.{GivesBy, at_line}
use Rattle.oc_schedule.specs.Schedule.{first_script, limited, read_statement}
use Rattle.oc_schedule.proofs.schedule_text.read_statement.Goals as goal

-- the header is the line of these words
pub returns-in-None : goal.returns-in-None
returns-in-None c =
    let word = c.args.found.0.now in
    let fields = words c.args.found.1.now in
    let header = subst (λ (ws : List (List ℕ)). GivesBy (λ (d : ScheduleBuilder). d.schedule) c.read_header.result (limited c.args.scale (at_line c.args.number (first_script ws)))) c.requires (c.read_header.ensures c.args.scale) in
    subst (λ (b : Option ScheduleBuilder). GivesBy (λ (d : ScheduleBuilder). d.schedule) c.read_header.result (read_statement c.args.scale c.args.number (script_of b) word fields)) (sym c.in-None.is) header
