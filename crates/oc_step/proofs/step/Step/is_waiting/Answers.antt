use Rattle.std.proofs.Common.{◌≡◌, true, ap, ◌∙◌}
use Rattle.oc_model.specs.ChangeLog.{waits}
use Rattle.oc_model.specs.Node.{Log}
use Rattle.oc_model.specs.Records.{folded, is_joined}
use Rattle.oc_step.specs.Since.{AreTold}
use Rattle.oc_step.proofs.Folded.{waits_still, waits_now}
use Rattle.oc_step.proofs.step.Step.is_waiting.Goals as goal

pub returns-then-has_waiting : goal.returns-then-has_waiting
returns-then-has_waiting c =
    let kept = c.self.inside.node.kept in
    let changes = c.self.inside.plan.records in
    let told : AreTold changes = rw (← c.self.view_is) at c.requires.told in
    let joined : is_joined (folded kept changes).mode ≡ true = rw (← c.self.view_is) at c.requires.joined in
    let first : c.has_waiting.result ≡ waits kept.log.waiting = c.has_waiting.ensures ∙ ap (λ (l : Log). waits l.waiting) c.log.ensures in
    rw (← c.self.view_is) (waits_still kept changes c.has_waiting.result told joined first c.if-has_waiting.true)

pub returns-else-has_waiting : goal.returns-else-has_waiting
returns-else-has_waiting c =
    let kept = c.self.inside.node.kept in
    let changes = c.self.inside.plan.records in
    let told : AreTold changes = rw (← c.self.view_is) at c.requires.told in
    let joined : is_joined (folded kept changes).mode ≡ true = rw (← c.self.view_is) at c.requires.joined in
    let first : c.has_waiting.result ≡ waits kept.log.waiting = c.has_waiting.ensures ∙ ap (λ (l : Log). waits l.waiting) c.log.ensures in
    rw (← c.self.view_is) (waits_now kept changes c.has_waiting.result c.have_certs.result told joined first c.if-has_waiting.false (rw c.records.ensures at c.have_certs.ensures))
