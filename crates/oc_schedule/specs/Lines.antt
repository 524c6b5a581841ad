-- The header, areas and event lines: the values that the fields of each kind give, and the words of each line.
use Rattle.std.specs.Prelude.{ℕ, ◌==◌, if◌then◌else◌, Result, Ok, Err, List, [], ◌∷◌, min, replicate, codes, decimal}
use Rattle.std.specs.Str.{bytes_eq}
use Rattle.oc_base.specs.Steps.{◌>>=◌, with_fault}
use Rattle.oc_base.specs.Words.{one, two, number_in, node_in}
use Rattle.oc_base.specs.declared.limits.TheConstants.{MAX_NODES, MAX_CHAIN, MAX_CHUNK_BYTES, USUAL_CHUNK_BYTES}
use Rattle.oc_base.specs.declared.why.Why.{Why}
use Rattle.oc_base.specs.declared.why.Why.TheVariants as causes
use Rattle.oc_model.specs.declared.event.Event.{Event}
use Rattle.oc_model.specs.declared.event.Event.TheVariants.{Up, Crash, Stop, Do, Held, Show, Settle, Heal}
use Rattle.oc_model.specs.Node.{Header}
use Rattle.oc_model.specs.declared.header.Sizes.{Sizes}
use Rattle.oc_schedule.specs.Acts.{act_in, act_word, act_fields, act_words, most_byte}

-- the numbers of nodes and of chain members, with that of a chunk
abbrev pub sizes_in : List ℕ → List ℕ → ℕ → Result Sizes Why
sizes_in n c chunk = do
  nodes ← number_in 1 MAX_NODES n
  chain ← number_in 1 (min MAX_CHAIN nodes) c
  Ok (record { nodes = nodes; chain = chain; chunk = chunk })

-- the fields begin with this word: the field after it, and the rest
abbrev pub named_in : List ℕ → List (List ℕ) → Result (List ℕ × List (List ℕ)) Why
named_in name (word ∷ field ∷ rest) = if bytes_eq word name then Ok (field, rest) else Err causes.Word
named_in name fields = Err causes.Count

-- the greatest number of bytes of a chunk: `chunk B`, or the usual one where nothing follows
abbrev pub chunk_in : List (List ℕ) → Result ℕ Why
chunk_in [] = Ok USUAL_CHUNK_BYTES
chunk_in (name ∷ fields) = do
  b ← one fields
  if bytes_eq name (codes "chunk") then number_in 1 MAX_CHUNK_BYTES b else Err causes.Word

-- `overcast 1 nodes N chain C`, and optionally `chunk B`
abbrev pub opening_in : List (List ℕ) → Result Sizes Why
opening_in words = do
  (version, after_version) ← named_in (codes "overcast") words
  (n, after_nodes) ← named_in (codes "nodes") after_version
  (c, after_chain) ← named_in (codes "chain") after_nodes
  chunk ← chunk_in after_chain
  if bytes_eq version (codes "1") then sizes_in n c chunk else Err causes.Word

-- a header with these numbers and with areas 0
abbrev pub header_without_areas : Sizes → Header
header_without_areas s = record { nodes = s.nodes; chain = s.chain; chunk = s.chunk; areas = replicate s.nodes 0 }

-- the header; each fault in it is `header`
abbrev pub header_in : List (List ℕ) → Result Header Why
header_in words = do
  sizes ← with_fault causes.Header (opening_in words)
  Ok (header_without_areas sizes)

-- the words of a chunk's number, unless it is the usual one
abbrev pub chunk_words : ℕ → List (List ℕ)
chunk_words chunk = if chunk == USUAL_CHUNK_BYTES then [] else codes "chunk" ∷ decimal chunk ∷ []

-- the words of a header that ends with these
abbrev pub header_with : ℕ → ℕ → List (List ℕ) → List (List ℕ)
header_with nodes chain rest = codes "overcast" ∷ codes "1" ∷ codes "nodes" ∷ decimal nodes ∷ codes "chain" ∷ decimal chain ∷ rest

abbrev pub header_words : ℕ → ℕ → ℕ → List (List ℕ)
header_words nodes chain chunk = header_with nodes chain (chunk_words chunk)

-- `area N A`
abbrev pub area_in : ℕ → List (List ℕ) → Result (ℕ × ℕ) Why
area_in nodes fields = do
  (n, a) ← two fields
  node ← node_in nodes n
  area ← number_in 0 most_byte a
  Ok (node, area)

abbrev pub area_words : ℕ → ℕ → List (List ℕ)
area_words node area = codes "area" ∷ decimal node ∷ decimal area ∷ []

-- a node, the field of four kinds of lines
abbrev pub node_alone_in : ℕ → List (List ℕ) → Result ℕ Why
node_alone_in nodes fields = do
  n ← one fields
  node_in nodes n

-- `up N`
abbrev pub up_in : ℕ → List (List ℕ) → Result Event Why
up_in nodes fields = do
  node ← node_alone_in nodes fields
  Ok (Up node)

-- `crash N`
abbrev pub crash_in : ℕ → List (List ℕ) → Result Event Why
crash_in nodes fields = do
  node ← node_alone_in nodes fields
  Ok (Crash node)

-- `held N`
abbrev pub held_in : ℕ → List (List ℕ) → Result Event Why
held_in nodes fields = do
  node ← node_alone_in nodes fields
  Ok (Held node)

-- `show N`
abbrev pub show_in : ℕ → List (List ℕ) → Result Event Why
show_in nodes fields = do
  node ← node_alone_in nodes fields
  Ok (Show node)

-- an event without fields
abbrev pub alone : Event → List (List ℕ) → Result Event Why
alone event [] = Ok event
alone event (field ∷ fields) = Err causes.Count

-- the first three fields, and the fields after them
abbrev pub first_three : List (List ℕ) → Result (List ℕ × List ℕ × List ℕ × List (List ℕ)) Why
first_three (a ∷ b ∷ c ∷ rest) = Ok (a, b, c, rest)
first_three fields = Err causes.Count

-- the greatest number of device calls that work before a stop
abbrev pub most_calls : ℕ
most_calls = 4

-- `stop K P` and an act line: the two numbers are tested before the act
abbrev pub stop_in : ℕ → List (List ℕ) → Result Event Why
stop_in nodes words = do
  (k, p, word, fields) ← first_three words
  calls ← number_in 0 most_calls k
  image ← number_in 0 most_byte p
  act ← act_in nodes word fields
  Ok (Stop calls image act)

-- an act line by itself
abbrev pub act_alone_in : ℕ → List ℕ → List (List ℕ) → Result Event Why
act_alone_in nodes word fields = do
  act ← act_in nodes word fields
  Ok (Do act)

-- an event line, by its word
abbrev pub event_in : ℕ → List ℕ → List (List ℕ) → Result Event Why
event_in nodes word fields =
    if bytes_eq word (codes "up") then up_in nodes fields
    else if bytes_eq word (codes "crash") then crash_in nodes fields
    else if bytes_eq word (codes "stop") then stop_in nodes fields
    else if bytes_eq word (codes "held") then held_in nodes fields
    else if bytes_eq word (codes "show") then show_in nodes fields
    else if bytes_eq word (codes "settle") then alone Settle fields
    else if bytes_eq word (codes "heal") then alone Heal fields
    else act_alone_in nodes word fields

-- the word of an event line
abbrev pub event_word : Event → List ℕ
event_word (Up node) = codes "up"
event_word (Crash node) = codes "crash"
event_word (Stop calls image act) = codes "stop"
event_word (Do act) = act_word act
event_word (Held node) = codes "held"
event_word (Show node) = codes "show"
event_word Settle = codes "settle"
event_word Heal = codes "heal"

-- the fields of an event line
abbrev pub event_fields : Event → List (List ℕ)
event_fields (Up node) = decimal node ∷ []
event_fields (Crash node) = decimal node ∷ []
event_fields (Stop calls image act) = decimal calls ∷ decimal image ∷ act_words act
event_fields (Do act) = act_fields act
event_fields (Held node) = decimal node ∷ []
event_fields (Show node) = decimal node ∷ []
event_fields Settle = []
event_fields Heal = []

-- the words of an event line
abbrev pub event_words : Event → List (List ℕ)
event_words event = event_word event ∷ event_fields event
