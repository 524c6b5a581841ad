use Rattle.std.specs.Prelude.{◌≡◌, ℕ, suc, ◌+◌, ◌-◌, ◌<◌, ◌≤◌, Bool, true, false, ◌&&◌, ◌==◌, nat_lt, if◌then◌else◌, Option, Some, None, is_none, List, [], ◌∷◌, ◌++◌, ◌⊎◌, length, map, take, drop, slice_get, slice_set, get_or}
use Rattle.oc_base.specs.Lawful.{IsNode}
use Rattle.oc_model.specs.declared.event.Event.{Event}
use Rattle.oc_model.specs.Node.{Node}
use Rattle.oc_model.specs.Numbers.{IsAmong}
use Rattle.oc_model.specs.declared.message.Message.{Message}
use Rattle.oc_model.specs.NextWorld.{world_after}
use Rattle.oc_model.specs.World.{World, ids, is_up, message_at, new_world, node}
use Rattle.oc_laws_world.specs.Merges.{Line, AreEventsOf, IsScheduleOf, entries_of, is_any}
use Rattle.oc_laws_world.specs.Taking.{IsInOrder}
use Rattle.oc_merge.specs.declared.choosing.Choice.{Choice}
use Rattle.oc_merge.specs.declared.heads.Head.{Head}
use Rattle.oc_merge.specs.declared.way.Way.{Way}
use Rattle.oc_merge.specs.declared.way.Way.TheVariants.{Start, Number, Input}
use Rattle.oc_merge.specs.declared.told.Told.{Told}
use Rattle.oc_merge.specs.declared.told.Told.TheVariants.{Started, Came, Took}
use Rattle.oc_merge.specs.declared.told.ToldLine.{ToldLine}
use Rattle.oc_merge.specs.Merging.{DeliverFirst, IsNumberOf}
use Rattle.oc_merge.specs.Recorded.{are_files, entry_of, message_of, own_told, recorded}
use Rattle.oc_merge.specs.Told.{Records}

-- The position of a merge in the record of each node.

-- the number of lines before the first line of x
abbrev pub before_own : ℕ → List ToldLine → ℕ
before_own x [] = 0
before_own x (l ∷ ls) = if l.node == x then 0 else suc (before_own x ls)

-- the head of x: the place of its next line after those that were taken, or after all lines where there is none; and whether one was taken
pub record IsHeadOf (lines : List ToldLine) (taken : List Line) (x : ℕ) (h : Head) : Type 0 where
  pub within : h.place ≤ length lines
  pub own : before_own x (drop h.place lines) ≡ 0
  pub count : length (own_told x (take h.place lines)) ≡ length (entries_of x taken)
  pub started : h.started ≡ is_any (entries_of x taken)

abbrev pub no_head : Head
no_head = record { place = 0; started = false; way = None }

abbrev pub head_of : List Head → ℕ → Head
head_of heads x = get_or heads (x - 1) no_head

pub record AreHeads (nodes : ℕ) (lines : List ToldLine) (taken : List Line) (heads : List Head) : Type 0 where
  pub all : length heads ≡ nodes
  pub each : (x : ℕ) → IsNode nodes x → IsHeadOf lines taken x (head_of heads x)

-- What can be taken

-- the statement about x can be the next event in this world
abbrev pub CanGo : (Node → List ℕ) → ℕ → World → ℕ → Told → Type 0
CanGo digest nodes w x (Started files) = are_files digest files (node w x) ≡ true
CanGo digest nodes w x (Came bytes) = (is_up w x ≡ true) × ((message_of nodes bytes).to ≡ x) × IsAmong (message_of nodes bytes) w.net
CanGo digest nodes w x (Took i) = is_up w x ≡ true

-- The way in which the next line of a node is taken: as a start, as the message of this number, or
-- as another input
abbrev pub IsWay : (Node → List ℕ) → ℕ → World → ℕ → Told → Option Way → Type 0
IsWay digest nodes w x told None = CanGo digest nodes w x told → ⊥
IsWay digest nodes w x (Started files) (Some Start) = CanGo digest nodes w x (Started files)
IsWay digest nodes w x (Came bytes) (Some (Number k)) = CanGo digest nodes w x (Came bytes) × IsNumberOf w.net (message_of nodes bytes) (Some k)
IsWay digest nodes w x (Took i) (Some Input) = CanGo digest nodes w x (Took i)
IsWay digest nodes w x told way = ⊥

-- the number of a message that comes to x
abbrev pub IsNumberFor : List Message → ℕ → Message → Option ℕ → Type 0
IsNumberFor net x m None = m.to ≡ x → (k : ℕ) → message_at net k ≡ Some m → ⊥
IsNumberFor net x m (Some k) = (m.to ≡ x) × IsNumberOf net m (Some k)

-- events lead from a world to another, and come after those before
pub record IsPlayedBy (es : List Event) (w v : World) (before after : List Event) : Type 0 where
  pub behind : after ≡ before ++ es
  pub leads : v ≡ world_after w es

-- a line leads from a world to another by events, which come after those before
pub record IsTaken (nodes : ℕ) (w : World) (l : ToldLine) (v : World) (before after : List Event) : Type 0 where
  pub events : List Event
  pub of_line : AreEventsOf w l.node (entry_of nodes l.told) events
  pub least : DeliverFirst w events
  pub behind : after ≡ before ++ events
  pub leads : v ≡ world_after w events

-- a merge on the way: the lines taken, and its position
pub record IsOnTheWay (digest : Node → List ℕ) (r : Records) (heads : List Head) (w : World) (events : List Event) : Type 0 where
  pub taken : List Line
  pub in_order : IsInOrder (recorded digest r) taken
  pub scheduled : IsScheduleOf (new_world r.header) taken events
  pub least : DeliverFirst (new_world r.header) events
  pub at : w ≡ world_after (new_world r.header) events
  pub heads_are : AreHeads r.header.nodes r.lines taken heads

-- the line at the head of x can come next
abbrev pub CanGoAt : (Node → List ℕ) → Records → World → List Head → ℕ → Type 0
CanGoAt digest r w heads x = (l : ToldLine) × (slice_get r.lines (head_of heads x).place ≡ Some l) × CanGo digest r.header.nodes w x l.told

-- of the nodes before `upto`, none whose head is before this index can take its line
abbrev pub NoneGoBefore : (Node → List ℕ) → Records → World → List Head → ℕ → ℕ → Type 0
NoneGoBefore digest r w heads upto place = (x : ℕ) → IsNode r.header.nodes x → x < upto → (head_of heads x).place < place → CanGoAt digest r w heads x → ⊥

-- the first line of the input that can be taken, so far as the nodes before `upto` tell
pub record IsChosen (digest : Node → List ℕ) (r : Records) (w : World) (heads : List Head) (upto : ℕ) (c : Choice) : Type 0 where
  pub within : c.place < length r.lines
  pub told : ToldLine
  pub there : slice_get r.lines c.place ≡ Some told
  pub of_head : (head_of heads told.node).place ≡ c.place
  pub way : IsWay digest r.header.nodes w told.node told.told (Some c.way)
  pub none_before : NoneGoBefore digest r w heads upto c.place

-- the heads as a look at them needs them: each is at a line of its node, and tells whether the node is up
pub record AreHeadsIn (w : World) (r : Records) (heads : List Head) : Type 0 where
  pub ids_are : length (ids w) ≡ r.header.nodes
  pub all : length heads ≡ r.header.nodes
  pub own : (x : ℕ) → IsNode r.header.nodes x → (l : ToldLine) → slice_get r.lines (head_of heads x).place ≡ Some l → l.node ≡ x
  pub started : (x : ℕ) → IsNode r.header.nodes x → (head_of heads x).started ≡ is_up w x

-- Ways that are kept with the heads

-- the way in which the line at the head of x can be taken, if there is one
abbrev pub IsWayAt : (Node → List ℕ) → ℕ → World → ℕ → Option ToldLine → Option Way → Type 0
IsWayAt digest nodes w x None way = way ≡ None
IsWayAt digest nodes w x (Some l) way = IsWay digest nodes w x l.told way

abbrev pub HasWay : (Node → List ℕ) → Records → World → ℕ → Head → Type 0
HasWay digest r w x h = IsWayAt digest r.header.nodes w x (slice_get r.lines h.place) h.way

-- the line at a head waits for a message
abbrev pub is_message : Told → Bool
is_message (Came bytes) = true
is_message told = false

abbrev pub is_message_there : Option ToldLine → Bool
is_message_there None = false
is_message_there (Some l) = is_message l.told

abbrev pub is_waiting : List ToldLine → Head → Bool
is_waiting lines h = is_none h.way && is_message_there (slice_get lines h.place)

-- each head has the way in which its line can be taken, except perhaps those that wait for a
-- message to one of these nodes
abbrev pub HaveWaysBut : (Node → List ℕ) → Records → World → List Head → List ℕ → Type 0
HaveWaysBut digest r w heads pending = (x : ℕ) → IsNode r.header.nodes x
    → (IsAmong x pending × (is_waiting r.lines (head_of heads x) ≡ true)) ⊎ HasWay digest r w x (head_of heads x)

abbrev pub HaveWays : (Node → List ℕ) → Records → World → List Head → Type 0
HaveWays digest r w heads = HaveWaysBut digest r w heads []

-- the head of x is looked at again
pub record IsLookedAt (digest : Node → List ℕ) (r : Records) (w : World) (x : ℕ) (before after : List Head) : Type 0 where
  pub way : Option Way
  pub is : IsWayAt digest r.header.nodes w x (slice_get r.lines (head_of before x).place) way
  pub after_is : after ≡ slice_set before (x - 1) (record (head_of before x) { way = way })

-- the head of x is looked at again only if its line waits for a message
abbrev pub LooksAgain : (Node → List ℕ) → Records → World → ℕ → List Head → List Head → Type 0
LooksAgain digest r w x before after =
    IsLookedAt digest r w x before after ⊎ ((is_waiting r.lines (head_of before x) ≡ false) × (after ≡ before))

-- a head without its way
abbrev pub placed : Head → Head
placed h = record h { way = None }

-- the heads differ at most in their ways
abbrev pub AreSamePlaces : List Head → List Head → Type 0
AreSamePlaces before after = map placed after ≡ map placed before

-- the receivers of the messages after the first `sent`
abbrev pub receivers_after : ℕ → List Message → List ℕ
receivers_after sent net = map (λ m. m.to) (drop sent net)

-- Of the heads before `upto` that have a way, the one with the first line

pub record IsFirstWay (heads : List Head) (upto : ℕ) (c : Choice) : Type 0 where
  pub index : ℕ
  pub within : index < upto
  pub of_place : (get_or heads index no_head).place ≡ c.place
  pub of_way : (get_or heads index no_head).way ≡ Some c.way
  pub none_before : (i : ℕ) → i < upto → (get_or heads i no_head).place < c.place → (get_or heads i no_head).way ≡ None

abbrev pub IsFirstChoice : List Head → ℕ → Option Choice → Type 0
IsFirstChoice heads upto None = (i : ℕ) → i < upto → (get_or heads i no_head).way ≡ None
IsFirstChoice heads upto (Some c) = IsFirstWay heads upto c

-- whether an index comes before the chosen one, if there is one
abbrev pub is_before : ℕ → Option Choice → Bool
is_before place None = true
is_before place (Some c) = nat_lt place c.place

-- Places

-- for each line the place of the next line of its node, or after all lines where there is none
abbrev pub AreNextPlaces : List ToldLine → List ℕ → Type 0
AreNextPlaces lines next = (length next ≡ length lines)
    × ((place : ℕ) (l : ToldLine) → slice_get lines place ≡ Some l → get_or next place 0 ≡ place + 1 + before_own l.node (drop (place + 1) lines))

-- for each node the place of its first line from this place on, or after all lines where there is none; and for each line from this place
-- on that of the next line of its node
pub record ArePlacesFrom (nodes : ℕ) (lines : List ToldLine) (from : ℕ) (first next : List ℕ) : Type 0 where
  pub all_nodes : length first ≡ nodes
  pub all_lines : length next ≡ length lines
  pub first_is : (x : ℕ) → IsNode nodes x → get_or first (x - 1) 0 ≡ from + before_own x (drop from lines)
  pub next_is : (place : ℕ) (l : ToldLine) → from ≤ place → slice_get lines place ≡ Some l → get_or next place 0 ≡ place + 1 + before_own l.node (drop (place + 1) lines)

-- the number of lines at or after the heads, counted for each node
abbrev pub lines_left : ℕ → List Head → ℕ
lines_left lines [] = 0
lines_left lines (h ∷ hs) = (lines - h.place) + lines_left lines hs
