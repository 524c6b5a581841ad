-- The index: the line of each group, and the frames with its bytes.
use Rattle.std.specs.Prelude.{◌≡◌, ℕ, ◌+◌, ◌-◌, ◌<◌, ◌≤◌, nat_lt, if◌then◌else◌, Some, List, [], ◌∷◌, ◌++◌, length, drop, map, get_or, insert, min, flat_map, vec_capacity, All, IsTrue, Bool}
use Rattle.oc_base.specs.declared.shelf.Shelf.{Shelf}
use Rattle.oc_base.specs.declared.named.Lookup.{Lookup}
use Rattle.oc_base.specs.declared.named.Lookup.TheVariants.{Found, Free}
use Rattle.oc_content.specs.declared.heading.Heading.{Heading}
pub use Rattle.oc_content.specs.Lines.{changed, line_with}
use Rattle.oc_content.specs.declared.track.Span.{Span}
use Rattle.oc_content.specs.declared.track.Track.{Track}
use Rattle.oc_content.specs.declared.index.Index.{Index}
use Rattle.oc_content.specs.Tracks.{room_of}
use Rattle.oc_base.specs.declared.group.Group.{Group}
use Rattle.oc_base.specs.Groups.{shelf}
use Rattle.oc_base.specs.Shelves.{AreLinesAscending}
use Rattle.oc_content.specs.Entries.{entry_of}
use Rattle.oc_content.specs.ContentFile.{content_of}
use Rattle.oc_base.specs.declared.limits.TheConstants.{MAX_GROUPS, MAX_GROUP_BYTES}

-- the bytes of a span: those in the body of its frame from an offset on
abbrev pub bytes_at : List (List ℕ) → Span → List ℕ
bytes_at bodies s = drop s.skip (get_or bodies s.frame [])

-- the span is an entry of this group with at least one byte, which begins at this offset of the group
pub record IsSpan (bodies : List (List ℕ)) (group : List ℕ) (at : ℕ) (s : Span) : Type 0 where
  pub start : s.start ≡ at
  pub within : s.frame < length bodies
  pub some : 0 < length (bytes_at bodies s)
  pub seals : Bool
  pub says : entry_of (get_or bodies s.frame []) ≡ Some (record { group = group; start = at; bytes = bytes_at bodies s; seals = seals })

-- the spans follow one another, from this offset of the group on
abbrev pub AreSpans : List (List ℕ) → List ℕ → ℕ → List Span → Type 0
AreSpans bodies group at [] = Unit {0}
AreSpans bodies group at (s ∷ ss) =
    IsSpan bodies group at s × AreSpans bodies group (at + length (bytes_at bodies s)) ss

-- the spans are entries of the group, and together have all its bytes
pub record IsTracked (bodies : List (List ℕ)) (k : Group) (ss : List Span) : Type 0 where
  pub spans : AreSpans bodies k.name 0 ss
  pub bytes : flat_map (bytes_at bodies) ss ≡ k.bytes

-- the spans of each group are right
abbrev pub AreTracked : List (List ℕ) → List Group → List (List Span) → Type 0
AreTracked bodies [] [] = Unit {0}
AreTracked bodies [] (p ∷ ps) = ⊥
AreTracked bodies (k ∷ ks) [] = ⊥
AreTracked bodies (k ∷ ks) (p ∷ ps) = IsTracked bodies k p × AreTracked bodies ks ps

-- the spans of each group
abbrev pub paths : List Track → List (List Span)
paths tracks = map (λ t. t.spans.items) tracks

-- the length of each group
abbrev pub helds : List Shelf → List ℕ
helds ss = map (λ s. s.held) ss

-- the number of further spans for which each track has memory
abbrev pub rooms : List Track → List ℕ
rooms tracks = map room_of tracks

-- Each line has a track. The lines ascend by name, and are within the limits.
pub record IsSized (x : Index) : Type 0 where
  pub rows : length x.tracks.items ≡ length x.shelves.items
  pub ascending : AreLinesAscending x.shelves.items
  pub few : length x.shelves.items ≤ MAX_GROUPS
  pub short : All (λ s. s.held ≤ MAX_GROUP_BYTES) x.shelves.items

-- the place is the index of one of n groups, or free for one more
abbrev pub IsWithin : Lookup → ℕ → Type 0
IsWithin (Found i) n = i < n
IsWithin (Free i) n = (i ≤ n) × (n < MAX_GROUPS)

-- memory for one more frame: in the track of a group that is there, or in the track that a new group brings
abbrev pub HasTrackRoom : List ℕ → ℕ → Lookup → Type 0
HasTrackRoom rooms room (Found i) = 0 < get_or rooms i 0
HasTrackRoom rooms room (Free i) = 0 < room

-- memory for one more group after n, if the place is free
abbrev pub HasGroupRoom : ℕ → ℕ → Lookup → Type 0
HasGroupRoom n memory (Found i) = Unit {0}
HasGroupRoom n memory (Free i) = n < memory

-- the number of spans of an entry of n bytes: one, or none without bytes
abbrev pub spans_for : ℕ → ℕ
spans_for n = if nat_lt 0 n then 1 else 0

-- the rooms of the tracks after an entry of n bytes; a new group brings this room
abbrev pub rooms_with : Lookup → ℕ → ℕ → List ℕ → List ℕ
rooms_with (Found i) room n rooms = changed (λ r. r - spans_for n) i rooms
rooms_with (Free i) room n rooms = insert rooms i (room - spans_for n)

-- the number of groups for whose lines and tracks the index has memory
abbrev pub memory_of : Index → ℕ
memory_of x = min (vec_capacity x.shelves) (vec_capacity x.tracks)

-- the spans and all memory are unchanged
pub record KeepsTracks (old new : List Track) : Type 0 where
  pub paths : paths new ≡ paths old
  pub rooms : (i : ℕ) → get_or (rooms old) i 0 ≤ get_or (rooms new) i 0

-- there is room for a frame of the group at this place, and for the group itself; its track brings this room
abbrev pub HasRoomFor : Index → ℕ → Lookup → Type 0
HasRoomFor x room place = HasTrackRoom (rooms x.tracks.items) room place × HasGroupRoom (length x.shelves.items) (memory_of x) place

-- memory was reserved, and all else is unchanged
pub record OnlyReserves (old new : Index) : Type 0 where
  pub lines : new.shelves.items ≡ old.shelves.items
  pub tracks : KeepsTracks old.tracks.items new.tracks.items
  pub memory : memory_of old ≤ memory_of new

-- the lines after an entry
abbrev pub lines_with : Lookup → Heading → ℕ → List Shelf → List Shelf
lines_with (Found i) h count ss = changed (line_with h count) i ss
lines_with (Free i) h count ss = insert ss i (record { group = h.group; held = count; sealed = h.seals })

-- the spans of an entry: one, or none without bytes
abbrev pub span_of : Heading → ℕ → ℕ → List Span
span_of h count frame =
    if nat_lt 0 count then record { frame = frame; start = h.start; skip = h.skip } ∷ [] else []

-- the spans of all groups after an entry
abbrev pub paths_with : Lookup → List Span → List (List Span) → List (List Span)
paths_with (Found i) ss ps = changed (λ p. p ++ ss) i ps
paths_with (Free i) ss ps = insert ps i ss

-- The index is that of frames of these bodies. The right numbers of the spans are known on an honest disk only.
pub record IsIndexOf (bodies : List (List ℕ)) (groups : List Group) (x : Index) (honest : Bool) : Type 0 where
  pub content : content_of bodies ≡ Some groups
  pub lines : x.shelves.items ≡ shelf groups
  pub rows : length x.tracks.items ≡ length x.shelves.items
  pub tracked : IsTrue honest → AreTracked bodies groups (paths x.tracks.items)
