-- The messages that a node has still to send, oldest first.
use Rattle.std.specs.Prelude.{ℕ, ◌-◌, ◌==◌, ◌&&◌, Bool, Option, Some, None, List, [], ◌∷◌, ◌++◌, length, drop, position, slice_set}
use Rattle.oc_model.specs.declared.message.Message.{Message}
use Rattle.oc_deeds.specs.Dials.{is_fetch}
use Rattle.oc_deeds.specs.declared.outbox.TheConstants.{MAX_OUTBOX}

-- the last of these, as many as are kept
abbrev pub latest : List Message → List Message
latest ms = drop (length ms - MAX_OUTBOX) ms

-- both messages ask the same node for content
abbrev pub asks_again : Message → Message → Bool
asks_again m older = is_fetch m.body && is_fetch older.body && older.to == m.to

-- the place of a message that asks the same node for content as this one does
abbrev pub older_fetch : List Message → Message → Option ℕ
older_fetch ms m = position (asks_again m) ms

-- the messages with another one in the place of that, or after all
abbrev pub put_at : List Message → Option ℕ → Message → List Message
put_at ms None m = latest (ms ++ m ∷ [])
put_at ms (Some place) m = slice_set ms place m

-- the messages with another one
abbrev pub with_message : List Message → Message → List Message
with_message ms m = put_at ms (older_fetch ms m) m

-- the messages with further ones, one after another
abbrev pub with_messages : List Message → List Message → List Message
with_messages ms [] = ms
with_messages ms (m ∷ more) = with_messages (with_message ms m) more
