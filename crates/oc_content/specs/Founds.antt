-- The place of a byte of a group in the frames.
use Rattle.std.specs.Prelude.{◌≡◌, ℕ, ◌+◌, ◌<◌, ◌≤◌, Option, Some, None, List, [], ◌∷◌, length, drop, get_or, flat_map}
use Rattle.oc_content.specs.declared.track.Span.{Span}
use Rattle.oc_content.specs.declared.track.Found.{Found}
use Rattle.oc_content.specs.declared.spot.Spot.{Spot}
use Rattle.oc_base.specs.declared.group.Group.{Group}
use Rattle.oc_content.specs.Entries.{Entry, entry_of}
use Rattle.oc_content.specs.Indexes.{bytes_at, IsSpan}

-- the byte is at that offset in the span, and the group from the byte on is in this span and those after it
pub record IsHit (bodies : List (List ℕ)) (k : Group) (path : List Span) (start : ℕ) (f : Found) : Type 0 where
  pub at : ℕ
  pub span : (d : Span) → IsSpan bodies k.name at (get_or path f.span d)
  pub place : at + f.skip ≡ start
  pub here : (d : Span) → f.skip < length (bytes_at bodies (get_or path f.span d))
  pub rest : drop start k.bytes ≡ drop f.skip (flat_map (bytes_at bodies) (drop f.span path))

-- the result of a search for a byte: none if it is past the end
abbrev pub IsFoundAt : List (List ℕ) → Group → List Span → ℕ → Option Found → Type 0
IsFoundAt bodies k path start None = length k.bytes ≤ start
IsFoundAt bodies k path start (Some f) = IsHit bodies k path start f

-- the spans from the one with the byte on, and the offset of the byte in the first of them
pub record IsRest (bodies : List (List ℕ)) (k : Group) (start : ℕ) (spans : List Span) (skip : ℕ) : Type 0 where
  pub first : Span
  pub others : List Span
  pub are : spans ≡ first ∷ others
  pub at : ℕ
  pub span : IsSpan bodies k.name at first
  pub place : at + skip ≡ start
  pub here : skip < length (bytes_at bodies first)
  pub rest : drop start k.bytes ≡ drop skip (flat_map (bytes_at bodies) spans)

-- the offset is within the first span
abbrev pub BeginsWithin : List (List ℕ) → ℕ → List Span → Type 0
BeginsWithin bodies skip [] = skip ≡ 0
BeginsWithin bodies skip (s ∷ ss) = skip ≤ length (bytes_at bodies s)

-- the frame has this byte of the group at that offset in its bytes
pub record IsSpot (bodies : List (List ℕ)) (group : List ℕ) (start : ℕ) (spot : Spot) : Type 0 where
  pub entry : Entry
  pub says : entry_of (get_or bodies spot.frame []) ≡ Some entry
  pub name : entry.group ≡ group
  pub place : entry.start + spot.skip ≡ start
  pub within : spot.skip < length entry.bytes
