-- Lawful messages are the same where their spellings are.
use Rattle.std.proofs.Common.{◌≡◌, ◌∙◌, ◌↔◌, Bool, Some, IsTrue, sym, subst}
use Rattle.oc_model.specs.World.{message_at}
use Rattle.oc_index.proofs.Same.{has_spelling, same_spelled}
use Rattle.oc_index.proofs.indexed_world.IndexedWorld.is_same.Goals as goal

pub encode-requires : goal.encode-requires
encode-requires c =
    has_spelling c.args.self.now.world.world c.count-nodes.result c.in-Some.found c.count-nodes.ensures.ids c.count-nodes.ensures.few (rw c.in-Some.is at c.in_ok-found.ensures.lawful)

pub returns-in_ok-other-in-Some : goal.returns-in_ok-other-in-Some
returns-in_ok-other-in-Some c =
    subst (λ (same : Bool). IsTrue same ↔ (message_at c.args.self.now.world.world.net c.args.number ≡ Some c.args.message.now)) (sym c.eq.ensures)
    (same_spelled c.args.self.now.world.world c.count-nodes.result c.args.number c.in-Some.found c.args.message.now c.as_slice.result.now c.args.spelled.now c.count-nodes.ensures.ids c.count-nodes.ensures.few
    (rw c.in-Some.is at c.in_ok-found.ensures.lawful) c.requires.message (sym c.in-Some.is ∙ c.in_ok-found.ensures.found) (c.as_slice.ensures.value ∙ c.in_ok-other-in-Some.ensures) c.requires.spelled)
