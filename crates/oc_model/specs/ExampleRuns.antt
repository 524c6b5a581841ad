use Rattle.std.specs.Prelude.{ℕ, ◌+◌, Bool, true, false, Option, Some, List, [], ◌∷◌, map, filter_map, option_map, length, drop}
use Rattle.oc_base.specs.declared.cert.Cert.{Cert}
use Rattle.oc_base.specs.declared.cert.Line.{Line}
use Rattle.oc_base.specs.declared.limits.TheConstants.{USUAL_CHUNK_BYTES}
use Rattle.oc_base.specs.declared.rank.Rank.{Rank}
use Rattle.oc_base.specs.declared.shelf.Shelf.{Shelf}
use Rattle.oc_model.specs.declared.event.Act.TheVariants as acts
use Rattle.oc_model.specs.declared.event.Event.{Event}
use Rattle.oc_model.specs.declared.event.Event.TheVariants.{Do}
use Rattle.oc_model.specs.declared.input.Input.TheVariants as inputs
use Rattle.oc_model.specs.declared.message.Body.{Body}
use Rattle.oc_model.specs.declared.message.Message.{Message}
use Rattle.oc_model.specs.declared.mode.Mode.{Mode}
use Rattle.oc_model.specs.declared.mode.Mode.TheVariants.{Acting}
use Rattle.oc_model.specs.declared.word.Word.{Word}
use Rattle.oc_model.specs.declared.word.Word.TheVariants as words
use Rattle.oc_model.specs.declared.answer.Answer.TheVariants as answers
use Rattle.oc_base.specs.Groups.{shelf}
use Rattle.oc_model.specs.NextWorld.{next_world, word_of, world_after}
use Rattle.oc_model.specs.Node.{Durable, Header}
use Rattle.oc_model.specs.Table.{table_line}
use Rattle.oc_model.specs.World.{World, Process, new_world, process, node}

-- The reports of the worked examples.

-- the words that report events, and the world after them
pub record Played : Type 0 where
  pub words : List Word
  pub world : World

abbrev with_word : Word → Played → Played
with_word word p = record p { words = word ∷ p.words }

abbrev pub plays : World → List Event → Played
plays w [] = record { words = []; world = w }
plays w (e ∷ es) = with_word (word_of w e) (plays (next_world w e) es)

-- a node in a report: whether it is up, its mode, ask number and rank, its log, its ancestors, its table, and the nodes listed in it
pub record Shown : Type 0 where
  pub up : Bool
  pub mode : Mode
  pub seq : ℕ
  pub rank : Option Rank
  pub acked : ℕ
  pub length : ℕ
  pub ancestors : List ℕ
  pub table : List Cert
  pub listed : List Line

abbrev pub line : ℕ → ℕ → Line
line x p = record { node = x; parent = p }

abbrev line_in : List Cert → ℕ → ℕ → Option Line
line_in t r x = option_map (line x) (table_line t r x)

abbrev shown_as : Bool → ℕ → Durable → Shown
shown_as up x d = record {
  up = up;
  mode = d.mode;
  seq = d.seq;
  rank = d.rank;
  acked = d.log.acked;
  length = d.log.length;
  ancestors = d.ancestors;
  table = d.table;
  listed = filter_map (line_in d.table x) (map (λ k. k.subject) d.table);
}

abbrev shown_process : Process → Shown
shown_process p = shown_as p.up p.node.control.me p.node.control.kept

-- the report of an example: the words of its last events, its last messages with the number of all messages, and some nodes
pub record Told : Type 0 where
  pub words : List Word
  pub sent : List Message
  pub messages : ℕ
  pub shown : List Shown

abbrev told_of : ℕ → ℕ → List ℕ → Played → Told
told_of events messages nodes p = record {
  words = drop events p.words;
  sent = drop messages p.world.net;
  messages = length p.world.net;
  shown = map (λ x. shown_process (process p.world x)) nodes;
}

-- the report of the events in a network of this header, without the first `events` words and the first `messages` messages,
-- and with these nodes in their final states
abbrev pub told : Header → List Event → ℕ → ℕ → List ℕ → Told
told h es events messages nodes = told_of events messages nodes (plays (new_world h) es)

-- the shelf of a node after these events
abbrev pub held : Header → List Event → ℕ → List Shelf
held h es x = shelf (node (world_after (new_world h) es) x).groups

-- Short forms

-- the header of a network of this many nodes, with a chain of this length
abbrev pub header : ℕ → ℕ → List ℕ → Header
header nodes chain areas = record { nodes = nodes; chain = chain; chunk = USUAL_CHUNK_BYTES; areas = areas }

-- x moves to p, p takes the ask, which is message k, and x takes the answer
abbrev pub join : ℕ → ℕ → ℕ → List Event
join x p k = Do (acts.At x (inputs.Relocate p)) ∷ Do (acts.Deliver k) ∷ Do (acts.Deliver (k + 1)) ∷ []

abbrev pub from_to : ℕ → ℕ → Body → Message
from_to x y b = record { from = x; to = y; body = b }

abbrev pub alive : ℕ → ℕ → ℕ → Cert
alive x seq y = record { subject = x; seq = seq; parent = y; dead = false; number = 0; clients = 0 }

abbrev pub dead : ℕ → ℕ → ℕ → Cert
dead x seq y = record { subject = x; seq = seq; parent = y; dead = true; number = 0; clients = 0 }

abbrev pub rank : ℕ → ℕ → Rank
rank epoch depth = record { epoch = epoch; depth = depth }

-- a root that is up, in a report
abbrev pub root_shown : Rank → List Cert → List Line → Shown
root_shown r table lines = record { up = true; mode = Acting; seq = 0; rank = Some r; acked = 0; length = 0; ancestors = []; table = table; listed = lines }

abbrev pub ok : Word
ok = words.Node answers.Ok
