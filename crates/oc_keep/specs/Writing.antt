-- The write of a step, made ready and then done.
use Rattle.std.specs.Prelude.{◌≡◌, ℕ, ◌+◌, ◌<◌, ◌≤◌, Bool, IsTrue, List, [], length, Option, Some, None}
use Rattle.oc_base.specs.declared.shelf.Shelf.{Shelf}
use Rattle.oc_base.specs.declared.group.Group.{Group}
use Rattle.oc_content.specs.ContentView.{ContentView, PieceView, IsPrepared, adds}
use Rattle.oc_content.specs.Entries.{entry_of, written}
use Rattle.oc_content.specs.Promises.{Commits as CommitsPiece, ClosesByCommit as ClosesByPiece}
use Rattle.oc_journal.specs.JournalView.{JournalView}
use Rattle.oc_journal.specs.Promises.{OnlyReads, AppendsSafely, IsFullFor}
use Rattle.oc_model.specs.declared.want.Want.{Want}
use Rattle.oc_model.specs.Step.{Piece, bytes_wanted}
use Rattle.oc_node.specs.Planned.{PlanView, filled_with}
use Rattle.oc_io.specs.DiskView.{DiskView, CannotFail}
use Rattle.oc_record.specs.Spelling.{records_bytes}
use Rattle.oc_store.specs.Promises.{Commits, CommitsSafely, ClosesByCommit}
use Rattle.oc_store.specs.StoreView.{StoreView}
use Rattle.oc_keep.specs.declared.ready.Write.{Write}
use Rattle.oc_keep.specs.declared.ready.Write.TheVariants as writes
use Rattle.oc_keep.specs.Puts.{entry_for}

-- Making ready

-- the spare room for a frame with a body of n bytes is there, and on a reliable disk the file does not pass its limit
pub record IsRoomFor {D : Type 0} (view : D → DiskView) (j : JournalView D) (n : ℕ) : Type 0 where
  pub room : n + 6 ≤ (view j.disk).room
  pub calls : 4 ≤ (view j.disk).calls
  pub fits : IsTrue (view j.disk).reliable → ¬ IsFullFor n j

-- a piece of content is prepared, adds something, is the piece of its body, and has its room
pub record CanPutPiece {D : Type 0} (view : D → DiskView) (c : ContentView D) (piece : PieceView) : Type 0 where
  pub prepared : IsPrepared c piece
  pub adds : IsTrue (adds piece)
  pub says : entry_of piece.body ≡ Some piece.entry
  pub room : IsRoomFor view c.journal (length piece.body)

-- bytes of a group from this offset on are ready to be put, with the memory and the room for them
pub record IsPutAs {D : Type 0} (view : D → DiskView) (shelves : List Shelf) (c : ContentView D) (of : Piece) (at : ℕ) (closes : Bool) (piece : PieceView) : Type 0 where
  pub entry : piece.entry ≡ entry_for shelves of at closes
  pub body : piece.body ≡ written piece.entry
  pub can : CanPutPiece view c piece

-- the same for the piece that a plan keeps
pub record IsPieceOf {D : Type 0} (view : D → DiskView) (shelves : List Shelf) (c : ContentView D) (p : PlanView) (of : Piece) (piece : PieceView) : Type 0 where
  pub none : p.records ≡ []
  pub at : ℕ
  pub keeps : p.keeps ≡ Some at
  pub put : IsPutAs view shelves c of at p.seals piece

-- the frame of a plan's records, with its room
pub record IsFrameOf {D : Type 0} (view : D → DiskView) (s : StoreView D) (p : PlanView) (frame : List ℕ) : Type 0 where
  pub some : 0 < length p.records
  pub none : p.keeps ≡ None
  pub spells : frame ≡ records_bytes p.records
  pub spare : 0 < s.current.spare
  pub room : IsRoomFor view s.current (length frame)

-- the prepared write of a plan: the frame of its records, the piece that it keeps, or nothing
abbrev pub IsWriteOf : {D : Type 0} → (D → DiskView) → StoreView D → List Shelf → ContentView D → PlanView → Piece → Write → Type 0
IsWriteOf view s shelves c p of writes.Nothing = (p.records ≡ []) × (p.keeps ≡ None)
IsWriteOf view s shelves c p of (writes.Records frame) = IsFrameOf view s p frame
IsWriteOf view s shelves c p of (writes.Content piece) = IsPieceOf view shelves c p of piece

-- the plan with the bytes of these groups that it wants in its chunk
abbrev pub fetched : List Group → Option Want → PlanView → PlanView
fetched ks None p = p
fetched ks (Some w) p = filled_with (bytes_wanted ks w) p

-- a call that only reserved room in a store: the contents of the disks are as they were
pub record KeepsStore {D : Type 0} (view : D → DiskView) (old new : StoreView D) : Type 0 where
  pub current : OnlyReads view old.current new.current
  pub other : OnlyReads view old.other new.other
  pub side : new.side ≡ old.side
  pub generation : new.generation ≡ old.generation
  pub closed : new.closed ≡ old.closed

-- Writing

-- a prepared write can be done
abbrev pub CanPutWrite : {D : Type 0} → StoreView D → ContentView D → Write → Type 0
CanPutWrite s c writes.Nothing = Unit {0}
CanPutWrite s c (writes.Records frame) = 0 < s.current.spare
CanPutWrite s c (writes.Content piece) = IsPrepared c piece × IsTrue (adds piece)

-- the write was done
abbrev pub Writes : {D : Type 0} → (D → DiskView) → Write → StoreView D → ContentView D → StoreView D → ContentView D → Type 0
Writes view writes.Nothing s c s2 c2 = Unit {0}
Writes view (writes.Records frame) s c s2 c2 = Commits view frame s s2
Writes view (writes.Content piece) s c s2 c2 = (held : ℕ) × CommitsPiece view piece held c c2

-- the write at every moment: one file is touched, and its images have the frame or not
abbrev pub WritesSafely : {D : Type 0} → (D → DiskView) → Write → StoreView D → ContentView D → StoreView D → ContentView D → Type 0
WritesSafely view writes.Nothing s c s2 c2 = (s2 ≡ s) × (c2 ≡ c)
WritesSafely view (writes.Records frame) s c s2 c2 = CommitsSafely view frame s s2 × (c2 ≡ c)
WritesSafely view (writes.Content piece) s c s2 c2 = AppendsSafely view piece.body c.journal c2.journal × (s2 ≡ s)

-- the disk of the write failed
abbrev pub FailsToWrite : {D : Type 0} → (D → DiskView) → Write → StoreView D → ContentView D → StoreView D → ContentView D → Type 0
FailsToWrite view writes.Nothing s c s2 c2 = ⊥
FailsToWrite view (writes.Records frame) s c s2 c2 = ClosesByCommit view frame s s2
FailsToWrite view (writes.Content piece) s c s2 c2 = ClosesByPiece view piece.body c c2

-- the file of the write would pass its limit
abbrev pub IsTooLong : {D : Type 0} → StoreView D → ContentView D → Write → Type 0
IsTooLong s c writes.Nothing = ⊥
IsTooLong s c (writes.Records frame) = IsFullFor (length frame) s.current
IsTooLong s c (writes.Content piece) = IsFullFor (length piece.body) c.journal

-- the calls of the write cannot fail
abbrev pub HasRoomFor : {D : Type 0} → (D → DiskView) → StoreView D → ContentView D → Write → Type 0
HasRoomFor view s c writes.Nothing = Unit {0}
HasRoomFor view s c (writes.Records frame) = CannotFail (length frame + 6) 4 (view s.current.disk)
HasRoomFor view s c (writes.Content piece) = CannotFail (length piece.body + 6) 4 (view c.journal.disk)
