use Rattle.std.specs.Prelude.{ℕ, ◌+◌, List, [], ◌∷◌, ◌++◌, codes, decimal}
use Rattle.std.specs.List.{flat_map}
use Rattle.oc_base.specs.declared.shelf.Shelf.{Shelf}
use Rattle.oc_model.specs.declared.answer.Answer.{Answer}
use Rattle.oc_model.specs.declared.answer.Answer.TheVariants as answers
use Rattle.oc_model.specs.declared.message.Message.{Message}
use Rattle.oc_model.specs.declared.word.Word.{Word}
use Rattle.oc_model.specs.declared.word.Word.TheVariants as words
use Rattle.oc_replay.specs.Bodies.{body_text, mark}

-- The lines of a report. Another word or block needs one more equation.

-- the word of an answer
abbrev pub answer_text : Answer → List ℕ
answer_text answers.Ok = codes "ok"
answer_text answers.Ignored = codes "ignored"
answer_text answers.Gap = codes "gap"
answer_text answers.NotSource = codes "notsource"
answer_text answers.NoGroup = codes "nogroup"
answer_text answers.Groups = codes "groups"
answer_text answers.TooLong = codes "toolong"
answer_text answers.Own = codes "own"
answer_text answers.Fixed = codes "fixed"
answer_text answers.Waiting = codes "waiting"
answer_text answers.Spent = codes "spent"
answer_text answers.Sealed = codes "sealed"
answer_text (answers.Redirect k) = codes "redirect " ++ decimal k
answer_text (answers.Serve count) = codes "serve " ++ decimal count

-- the word of an event
abbrev pub word_text : Word → List ℕ
word_text (words.Node answer) = answer_text answer
word_text words.Down = codes "down"
word_text words.NoMessage = codes "nomessage"
word_text words.Up = codes "up"
word_text words.StoppedOld = codes "stopped old"
word_text words.StoppedNew = codes "stopped new"
word_text (words.Settled count) = codes "settled " ++ decimal count
word_text words.Unready = codes "unready"
word_text (words.Healed count) = codes "healed " ++ decimal count

-- `#i WORD`
abbrev pub event_line : ℕ → Word → List ℕ
event_line i word = codes "#" ++ decimal i ++ codes " " ++ word_text word ++ codes "\n"

-- `  mK A>B BODY`
abbrev pub message_line : ℕ → Message → List ℕ
message_line k m =
    codes "  m" ++ decimal k ++ codes " " ++ decimal m.from ++ codes ">" ++ decimal m.to ++ codes " " ++ body_text m.body ++ codes "\n"

-- a line for each message, numbered from this number on
abbrev pub messages_text : ℕ → List Message → List ℕ
messages_text k [] = []
messages_text k (m ∷ ms) = message_line k m ++ messages_text (k + 1) ms

-- `  GROUP HELD`, and ` sealed` where the group is sealed
abbrev pub held_line : Shelf → List ℕ
held_line line = codes "  " ++ line.group ++ codes " " ++ decimal line.held ++ mark line.sealed (codes " sealed") ++ codes "\n"

-- the block of `held`: a line for each group
abbrev pub held_text : List Shelf → List ℕ
held_text shelf = flat_map held_line shelf

-- `end E M`
abbrev pub end_line : ℕ → ℕ → List ℕ
end_line events messages = codes "end " ++ decimal events ++ codes " " ++ decimal messages ++ codes "\n"
