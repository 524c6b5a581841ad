use Rattle.std.proofs.Common.{◌∙◌, Some, ap, sym}
use Rattle.oc_model.specs.declared.event.Event.{Event}
use Rattle.oc_replay.proofs.reporting.report_event_at.Goals as goal

-- the lent event is the one at the place
pub report_event-sent-requires-clause-event : goal.report_event-sent-requires-clause-event
report_event-sent-requires-clause-event g c = c.requires.event c.get.result.now (c.event-event.ensures ∙ ap (λ (e : Event). Some e) (sym c.get.ensures))

pub report_event-sent-requires-clause-time : goal.report_event-sent-requires-clause-time
report_event-sent-requires-clause-time g c = c.requires.time c.get.result.now (c.event-event.ensures ∙ ap (λ (e : Event). Some e) (sym c.get.ensures))
