-- A content log, and a piece made ready for it.
use Rattle.std.specs.Prelude.{◌≡◌, ℕ, ◌<◌, Bool, true, ◌||◌, nat_lt, IsTrue, List, length, take}
use Rattle.oc_base.specs.declared.shelf.Shelf.{Shelf}
use Rattle.oc_io.specs.DiskView.{DiskView, FailsToRead}
use Rattle.oc_journal.specs.JournalView.{JournalView}
use Rattle.oc_journal.specs.Promises.{OnlyReads, NoneFailed}
use Rattle.oc_journal.specs.declared.errors.FileError.{FileError}
use Rattle.oc_journal.specs.declared.errors.FileError.TheVariants.{Disk, NotJournal, BadFrame, Memory}
use Rattle.oc_base.specs.declared.named.Lookup.{Lookup}
use Rattle.oc_content.specs.declared.index.Index.{Index}
use Rattle.oc_base.specs.declared.group.Group.{Group}
use Rattle.oc_base.specs.Shelves.{line_of, LooksUpLine}
use Rattle.oc_content.specs.Entries.{Entry}
use Rattle.oc_content.specs.ContentFile.{fits, IsShelved, IsFirstBad}
use Rattle.oc_base.specs.Named.{is_free}
use Rattle.oc_content.specs.Indexes.{IsIndexOf, HasGroupRoom, HasTrackRoom, rooms, memory_of}

-- the journal, the line of each group, and the numbers of further frames of each group and of further groups for which there is memory
pub record ContentView (D : Type 0) : Type 0 where
  pub journal : JournalView D
  pub shelves : List Shelf
  pub rooms : List ℕ
  pub memory : ℕ

-- the view of a journal with the index of its frames
abbrev pub content_with : {D : Type 0} → JournalView D → Index → ContentView D
content_with j x = record { journal = j; shelves = x.shelves.items; rooms = rooms x.tracks.items; memory = memory_of x }

-- the body of a piece's frame, its entry, the place of its group, and the memory that it brings for a new group
pub record PieceView : Type 0 where
  pub body : List ℕ
  pub entry : Entry
  pub place : Lookup
  pub room : ℕ

-- whether a piece adds anything: without bytes and seal, to a group that is there, it does not
abbrev pub adds : PieceView → Bool
adds p = is_free p.place || nat_lt 0 (length p.entry.bytes) || p.entry.seals

-- nothing was put to these groups since the piece was prepared, and all memory for it is there
pub record IsReady (shelves : List Shelf) (rooms : List ℕ) (memory frames_to_come : ℕ) (p : PieceView) : Type 0 where
  pub place : LooksUpLine shelves p.entry.group p.place
  pub fits : adds p ≡ true → fits (line_of p.entry.group shelves) (length shelves) p.entry.start (length p.entry.bytes) p.entry.seals ≡ true
  pub room : HasTrackRoom rooms p.room p.place
  pub groups : HasGroupRoom (length shelves) memory p.place
  pub spare : 0 < frames_to_come

-- the piece is ready for this content log
abbrev pub IsPrepared : {D : Type 0} → ContentView D → PieceView → Type 0
IsPrepared c p = IsReady c.shelves c.rooms c.memory c.journal.spare p

-- The index is that of some frames, which on an honest disk are the journal's.
pub record IsIndexed {D : Type 0} (view : D → DiskView) (j : JournalView D) (x : Index) : Type 0 where
  pub bodies : List (List ℕ)
  pub groups : List Group
  pub is : IsIndexOf bodies groups x (view j.disk).honest
  pub frames : IsTrue (view j.disk).honest → j.frames ≡ bodies

-- the piece adds something, and is ready for this journal and its index
pub record CanAppend {D : Type 0} (view : D → DiskView) (j : JournalView D) (x : Index) (p : PieceView) : Type 0 where
  pub indexed : IsIndexed view j x
  pub ready : IsReady x.shelves.items (rooms x.tracks.items) (memory_of x) j.spare p
  pub adds_some : IsTrue (adds p)

-- the index is that of the first n frames
pub record IsIndexedTo {D : Type 0} (view : D → DiskView) (j : JournalView D) (x : Index) (n : ℕ) : Type 0 where
  pub bodies : List (List ℕ)
  pub groups : List Group
  pub is : IsIndexOf bodies groups x (view j.disk).honest
  pub frames : IsTrue (view j.disk).honest → bodies ≡ take n j.frames

-- the content of a journal that was only read: its lines tell the frames
pub record IsOpened {D : Type 0} (view : D → DiskView) (j : JournalView D) (c : ContentView D) : Type 0 where
  pub reads : OnlyReads view j c.journal
  pub none_failed : NoneFailed view j c.journal
  pub shelved : IsTrue (view j.disk).honest → IsShelved c.journal.frames c.shelves

-- the reason why the frames of a loaded journal were not indexed: a failed call, or the first bad frame
abbrev pub RefusesIndex : DiskView → DiskView → List (List ℕ) → FileError → Type 0
RefusesIndex old new frames Disk = FailsToRead old new
RefusesIndex old new frames NotJournal = ⊥
RefusesIndex old new frames (BadFrame i) = IsTrue old.honest → IsFirstBad frames i
RefusesIndex old new frames Memory = Unit {0}
