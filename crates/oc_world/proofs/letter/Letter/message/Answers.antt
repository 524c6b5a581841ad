use Rattle.std.proofs.Common.{sym, subst, ◌∙◌}
use Rattle.oc_world.specs.Net.{IsSpelled}
use Rattle.oc_world.proofs.letter.Letter.message.Goals as goal

-- the copy of the bytes is the bytes
pub message_in-requires-in-Shared-clause-spelled : goal.message_in-requires-in-Shared-clause-spelled
message_in-requires-in-Shared-clause-spelled c = subst (IsSpelled c.args.nodes) (sym (c.deref.ensures.value ∙ c.in_ok-bytes-in-Shared.ensures)) c.requires.spelled
