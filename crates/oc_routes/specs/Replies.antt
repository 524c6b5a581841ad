-- The message of a step that is the reply to a message that came, and the other messages.
use Rattle.std.specs.Prelude.{ℕ, ◌==◌, Option, List, position}
use Rattle.oc_model.specs.declared.message.Message.{Message}
use Rattle.oc_routes.specs.Elements.{element_at, without_at}

-- the index of the first message that goes back to the sender
abbrev pub reply_index : List Message → ℕ → Option ℕ
reply_index sends sender = position (λ m. m.to == sender) sends

-- the reply: the first message that goes back to the sender
abbrev pub reply_to : List Message → ℕ → Option Message
reply_to sends sender = element_at sends (reply_index sends sender)

-- the messages to the outbox: all others
abbrev pub others : List Message → ℕ → List Message
others sends sender = without_at sends (reply_index sends sender)
