-- A journal on a disk: its frames and its index.
use Rattle.std.specs.Prelude.{◌≡◌, ℕ, ◌+◌, ◌<◌, ◌≤◌, Bool, false, IsTrue, List, [], take, drop, map}
use Rattle.std.specs.List.{All}
use Rattle.oc_io.specs.DiskView.{DiskView, IsSafe}
use Rattle.oc_journal.specs.JournalFile.{frames_of, end_of, EndsAt, IsJournalOf}
use Rattle.oc_journal.specs.declared.extent.Extent.{Extent}

-- the disk, the bodies of the frames, the offset of their end, the number of further frames for which the index has memory, and whether
-- the disk failed
pub record JournalView (D : Type 0) : Type 0 where
  pub disk : D
  pub frames : List (List ℕ)
  pub end : ℕ
  pub spare : ℕ
  pub closed : Bool

-- the bytes of a file at an extent
abbrev pub at_extent : List ℕ → Extent → List ℕ
at_extent file extent = take extent.len (drop extent.at file)

-- the bodies at these extents
abbrev pub at_extents : List ℕ → List Extent → List (List ℕ)
at_extents file extents = map (at_extent file) extents

-- a read gives frames that end at this offset, and all bytes are durable
pub record IsSettled (v : DiskView) (end : ℕ) : Type 0 where
  pub ends : EndsAt v.seen (frames_of v.seen) end
  pub safe : IsSafe v

-- Each body is after the first gate and before the end of the frames, which is within the file; without bodies the end is the first gate.
-- Unless a call on an honest disk has failed, the bodies are the frames that a read gives, and all bytes are durable.
pub record IsIndexed (v : DiskView) (extents : List Extent) (end : ℕ) (closed : Bool) : Type 0 where
  pub within : All (λ extent. (9 ≤ extent.at) × (extent.at + extent.len ≤ end)) extents
  pub start : 8 ≤ end
  pub first : extents ≡ [] → end ≡ 8
  pub size : end < v.size
  pub settled : closed ≡ false → IsTrue v.honest → IsSettled v end
  pub frames : closed ≡ false → IsTrue v.honest → at_extents v.seen extents ≡ frames_of v.seen

-- every crash leaves these frames
abbrev pub HasFrames : DiskView → List (List ℕ) → Type 0
HasFrames v frames = (c : List ℕ) → v.may_leave c → frames_of c ≡ frames

-- every crash leaves a journal with these frames, which end at the same offset
pub record HoldsJournal {D : Type 0} (view : D → DiskView) (journal : JournalView D) : Type 0 where
  pub images : (c : List ℕ) → (view journal.disk).may_leave c → IsJournalOf journal.frames c
  pub end : journal.end ≡ end_of journal.frames

-- a file with the frames of a file that a crash may leave
abbrev pub IsLikeAnImage : DiskView → List ℕ → Type 0
IsLikeAnImage v file = (d : List ℕ) × v.may_leave d × (frames_of file ≡ frames_of d)
