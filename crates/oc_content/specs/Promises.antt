-- The promises of the calls of a content log.
use Rattle.std.specs.Prelude.{◌≡◌, ℕ, ◌+◌, ◌≤◌, Bool, IsTrue, List, length, get_or, Some}
use Rattle.oc_io.specs.DiskView.{DiskView, FailsToRead}
use Rattle.oc_journal.specs.JournalFile.{IsNoJournal}
use Rattle.oc_journal.specs.Promises.{IsLoaded, OnlyReads, HasRoom, Appends, ClosesByAppend}
use Rattle.oc_journal.specs.declared.errors.FileError.{FileError}
use Rattle.oc_journal.specs.declared.errors.FileError.TheVariants.{Disk, NotJournal, BadFrame, Memory}
use Rattle.oc_content.specs.ContentFile.{content_of, groups_in, with_entry, IsBadAt, IsShelved, IsSameElsewhere}
use Rattle.oc_content.specs.ContentView.{ContentView, PieceView, IsPrepared}
use Rattle.oc_content.specs.Entries.{written}
use Rattle.oc_content.specs.Indexes.{rooms_with}
use Rattle.oc_content.specs.Putting.{group_state_in, put_entry}

-- Loading

-- the content of a disk: its journal is loaded, all frames are good, and the lines are those of their groups
pub record IsContentOf {D : Type 0} (view : D → DiskView) (disk : D) (new : ContentView D) : Type 0 where
  pub journal : IsLoaded view disk new.journal
  pub shelved : IsTrue (view disk).honest → IsShelved new.journal.frames new.shelves

-- the reason why a disk was not loaded: a failed call, a file that is no journal, or the first bad frame
abbrev pub RefusesContent : DiskView → DiskView → FileError → Type 0
RefusesContent old new Disk = FailsToRead old new
RefusesContent old new NotJournal = IsTrue old.honest → IsNoJournal old.seen
RefusesContent old new (BadFrame i) = IsTrue old.honest → IsBadAt old.seen i
RefusesContent old new Memory = Unit {0}

-- Putting

-- a call that put nothing: the groups and all memory are unchanged
pub record PutsNothing {D : Type 0} (view : D → DiskView) (old new : ContentView D) : Type 0 where
  pub journal : OnlyReads view old.journal new.journal
  pub shelves : new.shelves ≡ old.shelves
  pub rooms : (i : ℕ) → get_or old.rooms i 0 ≤ get_or new.rooms i 0
  pub memory : old.memory ≤ new.memory

-- the piece of these bytes from an offset of a group on, with the seal if they are the last; it can be committed
pub record Prepares {D : Type 0} (view : D → DiskView) (group : List ℕ) (start : ℕ) (bytes : List ℕ) (last : Bool) (old new : ContentView D) (piece : PieceView) : Type 0 where
  pub entry : piece.entry ≡ put_entry (group_state_in old.shelves group) group start bytes last
  pub body : piece.body ≡ written piece.entry
  pub prepared : IsPrepared new piece
  pub room : HasRoom view new.journal (length piece.body)

-- Committing

-- a piece was added to its group, which then has this number of bytes, and all else is unchanged; only prepared memory was used
pub record Commits {D : Type 0} (view : D → DiskView) (piece : PieceView) (held : ℕ) (old new : ContentView D) : Type 0 where
  pub held_is : held ≡ piece.entry.start + length piece.entry.bytes
  pub content : IsTrue (view old.journal.disk).honest → content_of new.journal.frames ≡ Some (with_entry piece.entry (groups_in old.journal.frames))
  pub others : IsTrue (view old.journal.disk).honest → IsSameElsewhere piece.entry.group (groups_in old.journal.frames) (groups_in new.journal.frames)
  pub appends : Appends view piece.body old.journal new.journal
  pub rooms : new.rooms ≡ rooms_with piece.place piece.room (length piece.entry.bytes) old.rooms
  pub memory : new.memory ≡ old.memory

-- a commit that failed, which closes the content log and keeps its groups
pub record ClosesByCommit {D : Type 0} (view : D → DiskView) (body : List ℕ) (old new : ContentView D) : Type 0 where
  pub journal : ClosesByAppend view body old.journal new.journal
  pub shelves : new.shelves ≡ old.shelves
  pub rooms : new.rooms ≡ old.rooms
  pub memory : new.memory ≡ old.memory
