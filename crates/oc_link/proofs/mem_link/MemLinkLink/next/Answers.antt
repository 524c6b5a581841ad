use Rattle.std.proofs.Common.{◌∙◌, ap, sym}
use Rattle.std.specs.List.{slice_get}
use Rattle.std.specs.Option.{option_copied, option_map}
use Rattle.oc_link.specs.MemLinkView.{MemLinkView}
use Rattle.oc_link.proofs.Telling.{next_step, plays_as}
use Rattle.oc_link.proofs.mem_link.MemLinkLink.next.Goals as goal

pub returns-clause-plays : goal.returns-clause-plays
returns-clause-plays c =
    plays_as (slice_get c.args.self.now.script 0) (option_copied c.step_at-step.result) c.event_at-event.result c.bytes_at.result.now
    c.args.self.now.story (option_map (λ v. v.items) c.take-calls.result) (option_map (λ v. v.items) c.after_event-calls.result.0)
    (next_step c.deref.result.now c.self.inside.script.items c.args.self.now.script c.self.inside.at (option_copied c.step_at-step.result)
    (ap (λ (v : MemLinkView). v.script) c.self.view_is) c.deref.ensures.value c.step_at-step.ensures)
    (ap (option_map (λ v. v.items)) c.take-calls.ensures.value ∙ ap (λ (v : MemLinkView). v.story) c.self.view_is)
    (sym c.fails.ensures ∙ c.if-fails.false)
    c.event_at-event.ensures.event c.bytes_at.ensures c.after_event-calls.ensures.made
