-- The effects of the writes of a journal on a disk without a failed call.
use Rattle.std.specs.Prelude.{◌≡◌, ℕ, ◌+◌, IsTrue, List, [], ◌∷◌, ◌++◌, length, take, drop}
use Rattle.oc_io.specs.DiskView.{DiskView, HasNoFault}
use Rattle.oc_journal.specs.JournalFile.{header, frames_of}
use Rattle.oc_journal.specs.JournalView.{IsSettled}

-- four calls added a frame of this body to the frames that ended at this offset, and all bytes are durable
pub record AddsFrame (body : List ℕ) (end : ℕ) (old new : DiskView) : Type 0 where
  pub settled : IsTrue old.honest → IsSettled new (end + 5 + length body)
  pub added : IsTrue old.honest → frames_of new.seen ≡ frames_of old.seen ++ body ∷ []
  pub body_there : IsTrue old.honest → take (length body) (drop (end + 5) new.seen) ≡ body
  pub four : IsTrue old.honest → new.moment ≡ old.moment + 4
  pub no_fault : HasNoFault old new

-- two calls cleared the frames, and all bytes are durable
pub record ClearsFrames (old new : DiskView) : Type 0 where
  pub settled : IsTrue old.honest → IsSettled new 8
  pub none : IsTrue old.honest → frames_of new.seen ≡ []
  pub two : IsTrue old.honest → new.moment ≡ old.moment + 2
  pub no_fault : HasNoFault old new

-- a new file has its header, and all bytes are durable
pub record BeginsFile (old new : DiskView) : Type 0 where
  pub seen : IsTrue old.honest → new.seen ≡ header
  pub settled : IsTrue old.honest → IsSettled new 8
  pub none : IsTrue old.honest → frames_of new.seen ≡ []
  pub no_fault : HasNoFault old new
