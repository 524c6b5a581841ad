use Rattle.std.specs.Prelude.{ℕ, ◌+◌, ◌-◌, max, min, Bool, true, false, not, ◌&&◌, ◌||◌, ◌==◌, nat_lt, nat_le, if◌then◌else◌, Option, Some, None, is_some, List, [], length}
use Rattle.oc_base.specs.declared.shelf.Shelf.{Shelf}
use Rattle.oc_model.specs.declared.answer.Answer.{Answer}
use Rattle.oc_model.specs.declared.answer.Answer.TheVariants as words
use Rattle.oc_model.specs.declared.message.Body.TheVariants as bodies
use Rattle.oc_model.specs.declared.mode.Mode.{Mode}
use Rattle.oc_model.specs.declared.mode.Mode.TheVariants as modes
use Rattle.oc_model.specs.declared.want.Want.{Want}
use Rattle.oc_model.specs.Plan.{Plan, send, answers, ignored}
use Rattle.oc_model.specs.Shelves.{line_at, with_line, limit, next_behind}
use Rattle.oc_base.specs.Shelves.{line_of}

-- Rule 14, content: how a node gets bytes, and how they spread.

-- answers the refusal, if there is one, and goes on with the step otherwise
abbrev pub unless : Option Answer → Plan → Plan → Plan
unless None o p = p
unless (Some a) o p = answers o a

-- keeps the input's bytes in their group from that place on, and closes the group where `closes`
abbrev pub keeps : Plan → ℕ → Bool → Plan
keeps o at closes = record o { keeps = Some at; seals = closes }

-- Rule 14, content: publish and seal

-- whether a publish changes anything: it makes a new group, or adds a byte
abbrev pub grows : List Shelf → List ℕ → ℕ → Bool
grows shelf g count = not (is_some (line_of g shelf)) || not (count == 0)

-- a publish of `count` bytes to this group
abbrev pub publish_to : Plan → List Shelf → Shelf → ℕ → Plan
publish_to o shelf l count =
    if l.sealed then answers o words.Sealed
    else unless (limit shelf l.group (l.held + count)) o (if grows shelf l.group count then keeps o l.held false else o)

-- Rule 14, content, publish: at the source alone, at the end of the group
abbrev pub published : Plan → List Shelf → List ℕ → List ℕ → Plan
published o shelf g bytes = if o.node.me == 1 then publish_to o shelf (line_at g shelf) (length bytes) else answers o words.NotSource

abbrev pub seal_line : Plan → Option Shelf → Plan
seal_line o None = answers o words.NoGroup
seal_line o (Some l) = if l.sealed then ignored o else keeps o l.held true

-- Rule 14, content, seal: at the source alone, of a group that is held
abbrev pub sealed_at : Plan → List Shelf → List ℕ → Plan
sealed_at o shelf g = if o.node.me == 1 then seal_line o (line_of g shelf) else answers o words.NotSource

-- Rule 14, content: pull and fetch

abbrev pub pulled : Plan → List Shelf → ℕ → Plan
pulled o shelf p = if p == o.node.me then answers o words.Own else send o p (bodies.Fetch shelf)

-- the number of bytes in a chunk of this group from a place on: all that are left, up to the limit of a chunk
abbrev pub count_from : ℕ → Shelf → ℕ → ℕ
count_from most l start = min most (l.held - start)

-- the piece of a group for a chunk, or none where it has no bytes
abbrev pub wanted : Shelf → ℕ → ℕ → Option Want
wanted l start count = if count == 0 then None else Some (record { group = l.group; start = start; count = count })

-- sends p a chunk of this group, of `count` bytes from a place on; `last` where these bytes end a sealed group
abbrev pub sends_chunk : Plan → ℕ → Shelf → ℕ → ℕ → Plan
sends_chunk o p l start count =
    record (send o p (bodies.Chunk l.group start [] (l.sealed && start + count == l.held))) { wants = wanted l start count }

abbrev pub answers_fetch : Plan → ℕ → List Shelf → Option Shelf → Plan
answers_fetch o p have None = o
answers_fetch o p have (Some l) = sends_chunk o p l (line_at l.group have).held (count_from o.node.chunk l (line_at l.group have).held)

-- Rule 14, content, fetch: p tells its holdings; groups take turns, so that a large one holds up no other
abbrev pub fetched : Plan → List Shelf → ℕ → List Shelf → Plan
fetched o shelf p have = answers_fetch o p have (next_behind o.node.chunk have shelf)

-- Rule 14, content: chunks

-- whether a chunk closes the group: the chunk is the last one, the group is open, and no byte held is past the chunk
abbrev pub adds_seal : Shelf → ℕ → Bool → Bool
adds_seal l end last = last && not l.sealed && nat_le l.held end

-- whether a chunk that ends here adds anything: a new group, a byte or a seal
abbrev pub adds : List Shelf → Shelf → ℕ → Bool → Bool
adds shelf l end last = not (is_some (line_of l.group shelf)) || nat_lt l.held end || adds_seal l end last

-- the line of the group after the new part of a chunk was kept
abbrev pub grown_line : Shelf → ℕ → Bool → Shelf
grown_line l end last = record { group = l.group; held = max l.held end; sealed = l.sealed || adds_seal l end last }

-- asks the sender for more, where the sender is the parent
abbrev pub asks_on : Mode → ℕ → List Shelf → Plan → Plan
asks_on (modes.Joined q) p shelf o = if q == p then send o p (bodies.Fetch shelf) else o
asks_on mode p shelf o = o

-- keeps the new part of a chunk from p, if there is any, and asks for more
abbrev pub keeps_chunk : Plan → List Shelf → ℕ → Shelf → ℕ → ℕ → Bool → Plan
keeps_chunk o shelf p l start end last =
    if adds shelf l end last
    then asks_on o.node.kept.mode p (with_line (grown_line l end last) shelf) (keeps o start (adds_seal l end last))
    else ignored o

-- takes a chunk from p for this group; a chunk that leaves a gap is dropped
abbrev pub chunk_to : Plan → List Shelf → ℕ → Shelf → ℕ → ℕ → Bool → Plan
chunk_to o shelf p l start end last =
    if nat_lt l.held start then answers o words.Gap
    else if l.sealed && nat_lt l.held end then answers o words.Sealed
    else unless (limit shelf l.group end) o (keeps_chunk o shelf p l start end last)

-- Rule 14, content, chunk: takes a chunk from p
abbrev pub took_chunk : Plan → List Shelf → ℕ → List ℕ → ℕ → List ℕ → Bool → Plan
took_chunk o shelf p g start bytes last =
    if o.node.me == 1 then ignored o else chunk_to o shelf p (line_at g shelf) start (start + length bytes) last
