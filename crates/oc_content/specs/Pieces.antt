-- The invariant of a piece.
use Rattle.std.specs.Prelude.{◌≡◌, ℕ, Some, List, [], length}
use Rattle.oc_content.specs.declared.heading.Heading.{Heading}
use Rattle.oc_content.specs.declared.track.Track.{Track}
use Rattle.oc_content.specs.Entries.{entry_of}
use Rattle.oc_content.specs.Headings.{entry_at}

-- the body is the heading's, with `count` bytes after it; and the track has no spans
pub record IsPiece (body : List ℕ) (h : Heading) (count : ℕ) (track : Track) : Type 0 where
  pub says : entry_of body ≡ Some (entry_at h body)
  pub count_is : count ≡ length (entry_at h body).bytes
  pub empty : track.spans.items ≡ []
