-- The printed text is read as the same schedule.
use Rattle.std.proofs.Common.{◌≡◌, ◌++◌, ap, ◌∙◌}
use Rattle.oc_schedule.specs.Printing.{script_text}
use Rattle.oc_schedule.specs.Schedule.{schedule_of}
use Rattle.oc_schedule.proofs.Readback.{read_back}
use Rattle.oc_schedule.proofs.printing.print.Goals as goal

pub returns-clause-read_back : goal.returns-clause-read_back
returns-clause-read_back c scale printable =
    let text : c.put_schedule.new.out.items ≡ script_text c.args.schedule.now =
    c.in_ok-put_schedule.ensures ∙ ap (λ items. items ++ script_text c.args.schedule.now) c.new-out.ensures.items in
    ap (schedule_of scale) text ∙ read_back scale c.args.schedule.now printable
