use Rattle.std.proofs.Common.{◌≡◌, reverse, vec_len}
use Rattle.oc_deeds.specs.Outboxes.{with_messages}
use Rattle.oc_deeds.proofs.outbox.put_all.Given as goal

-- the messages kept so far, with those that are left, are the whole
abbrev pub invariant-loop-message : goal.invariant-loop-message
invariant-loop-message l = with_messages l.outbox (reverse l.messages.items) ≡ with_messages l.fn.outbox l.fn.messages.items

abbrev pub decreases-loop-message : goal.decreases-loop-message
decreases-loop-message l = vec_len l.messages
