-- The promises of the calls of a journal.
use Rattle.std.specs.Prelude.{◌≡◌, ℕ, ◌+◌, ◌<◌, ◌≤◌, false, true, IsTrue, List, [], ◌∷◌, ◌++◌, length}
use Rattle.oc_base.specs.declared.limits.TheConstants.{MAX_JOURNAL_BYTES}
use Rattle.oc_io.specs.DiskView.{DiskView, GoesOn, StaysAsItWas, Takes, Fails, FailsToRead, HasNoFault, LeavesOnly}
use Rattle.oc_journal.specs.JournalFile.{header, frames_of, IsNoJournal, IsBeforeOrAfter, IsAllOrNone}
use Rattle.oc_journal.specs.JournalView.{JournalView, HasFrames, IsLikeAnImage}
use Rattle.oc_journal.specs.declared.errors.LoadError.{LoadError}
use Rattle.oc_journal.specs.declared.errors.LoadError.TheVariants.{Disk, NotJournal, Memory}

-- Loading

-- the journal of a disk: its frames are those that a read gave, every crash now leaves them, and a new file has its header
pub record IsLoaded {D : Type 0} (view : D → DiskView) (disk : D) (new : JournalView D) : Type 0 where
  pub frames : IsTrue (view disk).honest → new.frames ≡ frames_of (view disk).seen
  pub kept : IsTrue (view disk).honest → HasFrames (view new.disk) new.frames
  pub header : IsTrue (view disk).honest → length (view disk).seen ≤ 9 → (view new.disk).seen ≡ header
  pub journal : IsTrue (view disk).honest → ¬ IsNoJournal (view disk).seen
  pub unclosed : new.closed ≡ false
  pub no_fault : HasNoFault (view disk) (view new.disk)

-- a load of a disk: at every moment a crash leaves the frames that a crash at the start of the load would have left
pub record LoadsSafely (old new : DiskView) : Type 0 where
  pub goes_on : GoesOn old new
  pub any_moment : IsTrue old.honest → LeavesOnly old new (IsLikeAnImage old)

-- the reason why a disk was not loaded: a call failed, or its file is no journal
abbrev pub RefusesLoad : DiskView → DiskView → LoadError → Type 0
RefusesLoad old new Disk = FailsToRead old new
RefusesLoad old new NotJournal = IsTrue old.honest → IsNoJournal old.seen
RefusesLoad old new Memory = Unit {0}

-- Reading

-- a call that reads or reserves: the frames and all room are unchanged
pub record OnlyReads {D : Type 0} (view : D → DiskView) (old new : JournalView D) : Type 0 where
  pub disk : StaysAsItWas (view old.disk) (view new.disk)
  pub frames : IsTrue (view old.disk).honest → new.frames ≡ old.frames
  pub count : length new.frames ≡ length old.frames
  pub end : new.end ≡ old.end
  pub spare : old.spare ≤ new.spare

-- no call of the disk failed, so the journal is open if it was open before
pub record NoneFailed {D : Type 0} (view : D → DiskView) (old new : JournalView D) : Type 0 where
  pub closed : new.closed ≡ old.closed
  pub no_fault : HasNoFault (view old.disk) (view new.disk)

-- a read that failed, which closes the journal
pub record ClosesByRead {D : Type 0} (view : D → DiskView) (old new : JournalView D) : Type 0 where
  pub fails : FailsToRead (view old.disk) (view new.disk)
  pub closes : new.closed ≡ true

-- Appending

-- the room for an `append` of a body of n bytes, and one more byte for a `restart`
pub record HasRoom {D : Type 0} (view : D → DiskView) (journal : JournalView D) (n : ℕ) : Type 0 where
  pub spare : 0 < journal.spare
  pub room : n + 7 ≤ (view journal.disk).room
  pub calls : 16 ≤ (view journal.disk).calls
  pub within : journal.end < (view journal.disk).size

-- one more frame, with a body of n bytes, would take the file past its limit
abbrev pub IsFullFor : {D : Type 0} → ℕ → JournalView D → Type 0
IsFullFor n journal = MAX_JOURNAL_BYTES < journal.end + 6 + n

-- an open journal got one more frame by four calls; every crash leaves the frame, and the call used the memory for one frame
pub record Appends {D : Type 0} (view : D → DiskView) (body : List ℕ) (old new : JournalView D) : Type 0 where
  pub frames : IsTrue (view old.disk).honest → new.frames ≡ old.frames ++ body ∷ []
  pub kept : IsTrue (view old.disk).honest → HasFrames (view new.disk) new.frames
  pub end : new.end ≡ old.end + 5 + length body
  pub four : IsTrue (view old.disk).honest → (view new.disk).moment ≡ (view old.disk).moment + 4
  pub spare : old.spare ≡ new.spare + 1
  pub was_open : old.closed ≡ false
  pub unclosed : new.closed ≡ false
  pub no_fault : HasNoFault (view old.disk) (view new.disk)

-- an append to an open journal: at every moment each image has the old frames, with or without the new one
pub record AppendsSafely {D : Type 0} (view : D → DiskView) (body : List ℕ) (old new : JournalView D) : Type 0 where
  pub any_moment : old.closed ≡ false → IsTrue (view old.disk).honest → LeavesOnly (view old.disk) (view new.disk) (IsBeforeOrAfter old.frames body)
  pub takes : Takes (length body + 6) 4 (view old.disk) (view new.disk)

-- an append that failed, which closes the journal and keeps its frames
pub record ClosesByAppend {D : Type 0} (view : D → DiskView) (body : List ℕ) (old new : JournalView D) : Type 0 where
  pub fails : Fails (length body + 6) 4 (view old.disk) (view new.disk)
  pub closes : new.closed ≡ true
  pub frames : IsTrue (view old.disk).honest → new.frames ≡ old.frames

-- Restarting

-- an open journal was emptied, and every crash leaves no frame; it takes two calls, or none where there was no frame
pub record Restarts {D : Type 0} (view : D → DiskView) (old new : JournalView D) : Type 0 where
  pub frames : new.frames ≡ []
  pub kept : IsTrue (view old.disk).honest → HasFrames (view new.disk) []
  pub end : new.end ≡ 8
  pub none : old.frames ≡ [] → new ≡ old
  pub two : IsTrue (view old.disk).honest → 0 < length old.frames → (view new.disk).moment ≡ (view old.disk).moment + 2
  pub spare : new.spare ≡ old.spare + length old.frames
  pub was_open : old.closed ≡ false
  pub unclosed : new.closed ≡ false
  pub no_fault : HasNoFault (view old.disk) (view new.disk)

-- a restart of an open journal: at every moment each image has the old frames, or none
pub record RestartsSafely {D : Type 0} (view : D → DiskView) (old new : JournalView D) : Type 0 where
  pub any_moment : old.closed ≡ false → IsTrue (view old.disk).honest → LeavesOnly (view old.disk) (view new.disk) (IsAllOrNone old.frames)
  pub takes : Takes 1 2 (view old.disk) (view new.disk)
  pub spare : old.spare ≤ new.spare

-- a restart that failed, which closes the journal and keeps its frames
pub record ClosesByRestart {D : Type 0} (view : D → DiskView) (old new : JournalView D) : Type 0 where
  pub fails : Fails 1 2 (view old.disk) (view new.disk)
  pub closes : new.closed ≡ true
  pub frames : IsTrue (view old.disk).honest → new.frames ≡ old.frames
