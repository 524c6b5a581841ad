use Rattle.std.proofs.Common.{◌∙◌, Some, ap, sym}
use Rattle.oc_model.specs.declared.event.Event.{Event}
use Rattle.oc_replay.proofs.playing.give_at.Goals as goal

-- the lent event is the one at the place
pub event-said-requires-clause-event : goal.event-said-requires-clause-event
event-said-requires-clause-event g c = c.requires.event c.get.result.now (c.event-event.ensures ∙ ap (λ (e : Event). Some e) (sym c.get.ensures))

pub event-said-requires-clause-time : goal.event-said-requires-clause-time
event-said-requires-clause-time g c = c.requires.time c.get.result.now (c.event-event.ensures ∙ ap (λ (e : Event). Some e) (sym c.get.ensures))
