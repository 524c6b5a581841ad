-- The promises of the calls of a store.
use Rattle.std.specs.Prelude.{◌≡◌, ℕ, ◌+◌, ◌<◌, ◌≤◌, false, true, IsTrue, List, [], ◌∷◌, ◌++◌, length, unwrap_or}
use Rattle.oc_io.specs.DiskView.{DiskView, Takes, Fails, FailsToRead, HasNoFault}
use Rattle.oc_journal.specs.declared.errors.FileError.{FileError}
use Rattle.oc_journal.specs.declared.errors.FileError.TheVariants as causes
use Rattle.oc_journal.specs.JournalFile.{frames_of, IsNoJournal}
use Rattle.oc_journal.specs.Promises.{LoadsSafely, OnlyReads, NoneFailed, Appends, ClosesByAppend}
use Rattle.oc_model.specs.declared.record.Record.{Record}
use Rattle.oc_model.specs.Lawful.{AreRecords}
use Rattle.oc_store.specs.declared.errors.Side.TheVariants.{First, Second}
use Rattle.oc_store.specs.declared.errors.Side.{Side}
use Rattle.oc_store.specs.declared.errors.StoreError.{StoreError}
use Rattle.oc_store.specs.ControlFiles.{generation_in, generation_of, current_side, recovered_frames, recovered, IsGood, IsBadAt}
use Rattle.oc_store.specs.Sides.{opposite}
use Rattle.oc_store.specs.StoreView.{StoreView, first_disk, second_disk, AreGood, AreHonest, Recovers, RecoversEither}

-- Loading

-- a control file that was read: the content of an honest disk is good
abbrev pub HasGood : ℕ → DiskView → Type 0
HasGood nodes v = IsTrue v.honest → IsGood nodes v.seen

-- the reason why a control file was not loaded: a failed call, no journal, or its first frame that is not a list of records
abbrev pub RefusesFile : ℕ → DiskView → DiskView → FileError → Type 0
RefusesFile nodes old new causes.Disk = FailsToRead old new
RefusesFile nodes old new causes.NotJournal = IsTrue old.honest → IsNoJournal old.seen
RefusesFile nodes old new (causes.BadFrame number) = IsTrue old.honest → IsBadAt nodes number old.seen
RefusesFile nodes old new causes.Memory = Unit {0}

-- the same for one of two control files; the second is refused only if the first is good
abbrev pub RefusesSide : ℕ → DiskView → DiskView → DiskView → DiskView → Side → FileError → Type 0
RefusesSide nodes a b a2 b2 First cause = RefusesFile nodes a a2 cause
RefusesSide nodes a b a2 b2 Second cause = HasGood nodes a × RefusesFile nodes b b2 cause

-- the reason why two control files were not loaded
abbrev pub RefusesFiles : ℕ → DiskView → DiskView → DiskView → DiskView → StoreError → Type 0
RefusesFiles nodes a b a2 b2 error = RefusesSide nodes a b a2 b2 error.side error.cause

-- a load of both disks: at every moment a crash leaves on each the frames that a crash at the start would have left
pub record LoadBothSafely (a b a2 b2 : DiskView) : Type 0 where
  pub first : LoadsSafely a a2
  pub second : LoadsSafely b b2

-- the store of two disks and its records, all of them lawful: those of the current file as read, which every crash now leaves
pub record IsStoreOf {D : Type 0} (view : D → DiskView) (nodes : ℕ) (first second : D) (store : StoreView D) (records : List Record) : Type 0 where
  pub lawful : AreRecords nodes records
  pub records_are : IsTrue (view first).honest → IsTrue (view second).honest → records ≡ recovered nodes (view first).seen (view second).seen
  pub frames : IsTrue (view first).honest → IsTrue (view second).honest → store.current.frames ≡ recovered_frames (view first).seen (view second).seen
  pub side : IsTrue (view first).honest → IsTrue (view second).honest → store.side ≡ current_side (frames_of (view first).seen) (frames_of (view second).seen)
  pub generation : IsTrue (view first).honest → IsTrue (view second).honest
      → store.generation ≡ unwrap_or (generation_of (recovered_frames (view first).seen (view second).seen)) 0
  pub kept : IsTrue (view first).honest → IsTrue (view second).honest → Recovers view store (recovered_frames (view first).seen (view second).seen)
  pub good : IsTrue (view first).honest → IsTrue (view second).honest → AreGood nodes store
  pub good_first : HasGood nodes (view first)
  pub good_second : HasGood nodes (view second)
  pub unclosed : store.closed ≡ false
  pub no_fault_first : HasNoFault (view first) (view (first_disk store))
  pub no_fault_second : HasNoFault (view second) (view (second_disk store))

-- Reserving

-- a call that reserved room in the current file; all else is unchanged
pub record ReservesCurrent {D : Type 0} (view : D → DiskView) (old new : StoreView D) : Type 0 where
  pub current : OnlyReads view old.current new.current
  pub none_failed : NoneFailed view old.current new.current
  pub other : new.other ≡ old.other
  pub side : new.side ≡ old.side
  pub generation : new.generation ≡ old.generation
  pub closed : new.closed ≡ old.closed

-- a call that reserved room in the other file; all else is unchanged
pub record ReservesOther {D : Type 0} (view : D → DiskView) (old new : StoreView D) : Type 0 where
  pub current : new.current ≡ old.current
  pub other : OnlyReads view old.other new.other
  pub none_failed : NoneFailed view old.other new.other
  pub side : new.side ≡ old.side
  pub generation : new.generation ≡ old.generation
  pub closed : new.closed ≡ old.closed

-- Committing

-- a frame was added to the current file of an open store, and every crash leaves it
pub record Commits {D : Type 0} (view : D → DiskView) (body : List ℕ) (old new : StoreView D) : Type 0 where
  pub appends : Appends view body old.current new.current
  pub kept : AreHonest view old → Recovers view new (old.current.frames ++ body ∷ [])
  pub generation : 0 < length old.current.frames → new.generation ≡ old.generation
  pub generation_first : old.current.frames ≡ [] → new.generation ≡ generation_in body
  pub generation_none : IsTrue (view old.current.disk).honest → old.current.frames ≡ [] → old.generation ≡ 0
  pub was_open : old.closed ≡ false
  pub unclosed : new.closed ≡ false

-- a commit to an open store: at every moment the old frames are recovered, with or without the new one; the other file is not touched
pub record CommitsSafely {D : Type 0} (view : D → DiskView) (body : List ℕ) (old new : StoreView D) : Type 0 where
  pub any_moment : old.closed ≡ false → AreHonest view old → RecoversEither view old new old.current.frames (old.current.frames ++ body ∷ [])
  pub later : old.closed ≡ false → IsTrue (view old.current.disk).honest → (view old.current.disk).moment ≤ (view new.current.disk).moment
  pub takes : Takes (length body + 6) 4 (view old.current.disk) (view new.current.disk)
  pub other : new.other ≡ old.other
  pub side : new.side ≡ old.side

-- a commit that failed, which closes the store and keeps its frames
pub record ClosesByCommit {D : Type 0} (view : D → DiskView) (body : List ℕ) (old new : StoreView D) : Type 0 where
  pub current : ClosesByAppend view body old.current new.current
  pub generation : new.generation ≡ old.generation
  pub closes : new.closed ≡ true

-- Turning over

-- a snapshot was written to the other file of an open store, which now is the current one, and every crash leaves it; no memory was taken
pub record TurnsOver {D : Type 0} (view : D → DiskView) (snapshot : List ℕ) (old new : StoreView D) : Type 0 where
  pub frames : IsTrue (view old.other.disk).honest → new.current.frames ≡ snapshot ∷ []
  pub kept : AreHonest view old → Recovers view new (snapshot ∷ [])
  pub end : new.current.end ≡ 13 + length snapshot
  pub spare : new.current.spare + 1 ≡ old.other.spare + length old.other.frames
  pub later : IsTrue (view old.other.disk).honest → (view old.other.disk).moment ≤ (view new.current.disk).moment
  pub takes : Takes (length snapshot + 7) 6 (view old.other.disk) (view new.current.disk)
  pub no_fault : HasNoFault (view old.other.disk) (view new.current.disk)
  pub other : new.other ≡ old.current
  pub side : new.side ≡ opposite old.side
  pub generation : new.generation ≡ generation_in snapshot
  pub was_open : old.closed ≡ false
  pub unclosed : new.closed ≡ false

-- a failed turn, which closes the store and keeps its current side and generation
pub record ClosesByTurn {D : Type 0} (view : D → DiskView) (snapshot : List ℕ) (old new : StoreView D) : Type 0 where
  pub fails : Fails (length snapshot + 7) 6 (view old.other.disk) (view new.other.disk)
  pub later : IsTrue (view old.other.disk).honest → (view old.other.disk).moment ≤ (view new.other.disk).moment
  pub takes : Takes (length snapshot + 7) 6 (view old.other.disk) (view new.other.disk)
  pub current : new.current ≡ old.current
  pub side : new.side ≡ old.side
  pub generation : new.generation ≡ old.generation
  pub closes : new.closed ≡ true
