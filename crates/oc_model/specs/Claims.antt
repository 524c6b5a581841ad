use Rattle.std.specs.Prelude.{◌≡◌, ℕ, ◌+◌, ◌≤◌, true, Some, List, length, take, drop}
use Rattle.std.specs.List.{AllByRecursion}
use Rattle.oc_base.specs.declared.shelf.Shelf.{Shelf}
use Rattle.oc_model.specs.declared.event.Event.{Event}
use Rattle.oc_base.specs.declared.group.Group.{Group}
use Rattle.oc_model.specs.declared.message.Body.{Body}
use Rattle.oc_model.specs.declared.message.Body.TheVariants.{Fetch, Chunk}
use Rattle.oc_base.specs.Groups.{group_of}
use Rattle.oc_model.specs.NextWorld.{next_world}
use Rattle.oc_model.specs.World.{World, node}

-- the bytes of this group are the first bytes of the source's group of that name
abbrev pub IsPrefixOfSource : World → List ℕ → Group → Type 0
IsPrefixOfSource w g k = (s : Group) × (group_of g w.source ≡ Some s) × (k.bytes ≡ take (length k.bytes) s.bytes)

-- no node holds a byte that the source did not publish at that place
abbrev pub HoldPrefixes : World → Type 0
HoldPrefixes w = (x : ℕ) (g : List ℕ) (k : Group) → group_of g (node w x).groups ≡ Some k → IsPrefixOfSource w g k

-- these groups contain the line: at least its bytes, and the seal if the line has it
abbrev pub Keeps : List Group → Shelf → Type 0
Keeps ks l = (k : Group) × (group_of l.group ks ≡ Some k) × (l.held ≤ length k.bytes) × (l.sealed ≡ true → k.sealed ≡ true)

-- the sender of a fetch holds all that the fetch names; other messages name nothing
abbrev pub IsAcknowledged : World → ℕ → Body → Type 0
IsAcknowledged w x (Fetch have) = AllByRecursion (Keeps (node w x).groups) have
IsAcknowledged w x body = Unit {0}

-- every node still holds all that it has ever told it holds; node 1 holds the source
pub record HoldAcknowledged (w : World) : Type 0 where
  pub fetches : AllByRecursion (λ m. IsAcknowledged w m.from m.body) w.net
  pub source : (g : List ℕ) → group_of g (node w 1).groups ≡ group_of g w.source

-- a node that has the seal of a group has all its bytes
abbrev pub SealedAreWhole : World → Type 0
SealedAreWhole w = (x : ℕ) (g : List ℕ) (k : Group) → group_of g (node w x).groups ≡ Some k → k.sealed ≡ true →
    (s : Group) × (group_of g w.source ≡ Some s) × (s.sealed ≡ true) × (k.bytes ≡ s.bytes)

-- the bytes of a chunk are those of the source's group from `start` on
abbrev pub IsPieceOf : ℕ → List ℕ → Group → Type 0
IsPieceOf start bytes s = bytes ≡ take (length bytes) (drop start s.bytes)

-- a chunk is true: a piece of the source's group, and the end of a sealed group where it is the last one
abbrev pub IsTrueChunk : World → Body → Type 0
IsTrueChunk w (Chunk g start bytes last) =
    (s : Group) × (group_of g w.source ≡ Some s) × IsPieceOf start bytes s
    × (last ≡ true → (s.sealed ≡ true) × (start + length bytes ≡ length s.bytes))
IsTrueChunk w body = Unit {0}

-- every chunk that was ever sent has bytes of the source
abbrev pub ChunksAreTrue : World → Type 0
ChunksAreTrue w = AllByRecursion (λ m. IsTrueChunk w m.body) w.net

-- no event changes a sealed group of the source
abbrev pub SealedSourceStays : World → Event → Type 0
SealedSourceStays w e = (g : List ℕ) (s : Group) → group_of g w.source ≡ Some s → s.sealed ≡ true → group_of g (next_world w e).source ≡ Some s
