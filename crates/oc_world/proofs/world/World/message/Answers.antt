use Rattle.std.proofs.Common.{◌≡◌, ℕ, length, sym, ap, subst, ◌∙◌}
use Rattle.oc_model.specs.Lawful.{IsMessage}
use Rattle.oc_model.specs.World.{ids}
use Rattle.oc_world.specs.World.{WorldView, processes_of}
use Rattle.oc_world.proofs.Turns.{count_ids}
use Rattle.oc_world.proofs.world.World.message.Goals as goal

-- a message of the net goes between as many nodes as the world has
pub returns-in_ok-message-in-Some-clause-lawful : goal.returns-in_ok-message-in-Some-clause-lawful
returns-in_ok-message-in-Some-clause-lawful c =
    let s = c.self.inside in
    let many : s.net.nodes ≡ length (ids c.args.self.now.world) =
    c.self.invariant.net ∙ (sym (count_ids (processes_of s.processes.items) s.net.messages) ∙ ap (λ (v : WorldView). length (ids v.world)) c.self.view_is) in
    subst (λ (n : ℕ). IsMessage n c.in_ok-message-in-Some.field-0) many c.in_ok-message-in-Some.ensures.lawful
