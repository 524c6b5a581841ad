use Rattle.std.specs.Prelude.{ℕ, ◌+◌, ◌-◌, Option, Some, None, List, [], ◌∷◌, ◌++◌, length, drop}
use Rattle.oc_model.specs.declared.event.Event.{Event}
use Rattle.oc_model.specs.declared.event.Event.TheVariants.{Held, Show, Settle, Heal}
use Rattle.oc_model.specs.declared.message.Message.{Message}
use Rattle.oc_model.specs.declared.word.Word.{Word}
use Rattle.oc_base.specs.Groups.{shelf}
use Rattle.oc_model.specs.NextWorld.{next_world, word_of}
use Rattle.oc_model.specs.World.{World, node}
use Rattle.oc_model.specs.Status.{status_in}
use Rattle.oc_replay.specs.Lines.{event_line, message_line, messages_text, held_text, end_line}
use Rattle.oc_replay.specs.Shows.{show_text}

-- What a report says of a run.

-- the block of an event, in the world after it
abbrev pub block_text : World → Event → List ℕ
block_text w (Held x) = held_text (shelf (node w x).groups)
block_text w (Show x) = show_text x (status_in w x)
block_text w e = []

-- the lines of the messages from this number on
abbrev pub sent_from : ℕ → World → List ℕ
sent_from k w = messages_text k (drop (k - 1) w.net)

-- the messages reported for an event; those of settle and heal are numbered, and left out
abbrev pub sent_text : ℕ → World → Event → List ℕ
sent_text k w Settle = []
sent_text k w Heal = []
sent_text k w e = sent_from k w

-- the line of the message of this number, if there is one
abbrev pub message_text : ℕ → Option Message → List ℕ
message_text k None = []
message_text k (Some m) = message_line k m

-- the i-th event, with this word, from one world to the next: the word, the messages that it sent, the block
abbrev pub event_text : ℕ → Word → World → World → Event → List ℕ
event_text i word old new e =
    event_line i word ++ sent_text (length old.net + 1) new e ++ block_text new e

-- the events after the first i of them, played from this world on, and the end
abbrev pub told_from : ℕ → World → List Event → List ℕ
told_from i w [] = end_line i (length w.net)
told_from i w (e ∷ es) = event_text (i + 1) (word_of w e) w (next_world w e) e ++ told_from (i + 1) (next_world w e) es

-- the report of a run that opens with this world
abbrev pub run_text : World → List Event → List ℕ
run_text w es = told_from 0 w es
