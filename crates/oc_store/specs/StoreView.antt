-- A store of control records, as a contract sees it.
use Rattle.std.specs.Prelude.{◌≡◌, ◌⊎◌, ℕ, ◌^◌, ◌<◌, Bool, false, IsTrue, None, List, [], ◌∷◌, unwrap_or}
use Rattle.oc_io.specs.DiskView.{DiskView}
use Rattle.oc_journal.specs.JournalView.{JournalView, HasFrames, HoldsJournal}
use Rattle.oc_model.specs.declared.record.Record.{Record}
use Rattle.oc_model.specs.declared.record.Record.TheVariants.{Snapshot}
use Rattle.oc_store.specs.declared.errors.Side.{Side}
use Rattle.oc_store.specs.ControlFiles.{generation_of, current_side, at_side, recovered_frames, first_bad}

-- the current file and the other one, the current side, its generation, and whether a disk failed
pub record StoreView (D : Type 0) : Type 0 where
  pub current : JournalView D
  pub other : JournalView D
  pub side : Side
  pub generation : ℕ
  pub closed : Bool

-- the disk of each side
abbrev pub first_disk : {D : Type 0} → StoreView D → D
first_disk s = at_side s.side s.current.disk s.other.disk

abbrev pub second_disk : {D : Type 0} → StoreView D → D
second_disk s = at_side s.side s.other.disk s.current.disk

-- both disks are honest
abbrev pub AreHonest : {D : Type 0} → (D → DiskView) → StoreView D → Type 0
AreHonest view s = IsTrue (view s.current.disk).honest × IsTrue (view s.other.disk).honest

-- every crash leaves two journals with the frames of the files
pub record HoldsJournals {D : Type 0} (view : D → DiskView) (s : StoreView D) : Type 0 where
  pub current : HoldsJournal view s.current
  pub other : HoldsJournal view s.other

-- all frames of both files are lists of records
pub record AreGood {D : Type 0} (nodes : ℕ) (s : StoreView D) : Type 0 where
  pub current : first_bad nodes s.current.frames ≡ None
  pub other : first_bad nodes s.other.frames ≡ None

-- every crash now recovers these frames
abbrev pub Recovers : {D : Type 0} → (D → DiskView) → StoreView D → List (List ℕ) → Type 0
Recovers view s frames = (a b : List ℕ) → (view (first_disk s)).may_leave a → (view (second_disk s)).may_leave b → recovered_frames a b ≡ frames

-- a crash at any moment since the old store recovers the old frames, or the new ones
abbrev pub RecoversEither : {D : Type 0} → (D → DiskView) → StoreView D → StoreView D → List (List ℕ) → List (List ℕ) → Type 0
RecoversEither view old new before after = (a b : List ℕ)
    → (view (first_disk new)).since (view (first_disk old)).moment a → (view (second_disk new)).since (view (second_disk old)).moment b
    → (recovered_frames a b ≡ before) ⊎ (recovered_frames a b ≡ after)

-- Unless a disk failed, every crash of honest disks leaves the frames of each file, the current one is current,
-- and has this generation.
pub record IsStore {D : Type 0} (view : D → DiskView) (current other : JournalView D) (side : Side) (generation : ℕ) (closed : Bool) : Type 0 where
  pub open_current : closed ≡ false → current.closed ≡ false
  pub open_other : closed ≡ false → other.closed ≡ false
  pub kept_current : closed ≡ false → IsTrue (view current.disk).honest → HasFrames (view current.disk) current.frames
  pub kept_other : closed ≡ false → IsTrue (view other.disk).honest → HasFrames (view other.disk) other.frames
  pub ordered : closed ≡ false → IsTrue (view current.disk).honest → IsTrue (view other.disk).honest
      → current_side (at_side side current.frames other.frames) (at_side side other.frames current.frames) ≡ side
  pub numbered : closed ≡ false → IsTrue (view current.disk).honest → generation ≡ unwrap_or (generation_of current.frames) 0

-- the list begins with a snapshot of a greater generation than this
abbrev pub BeginsAbove : ℕ → List Record → Type 0
BeginsAbove generation [] = ⊥
BeginsAbove generation (Snapshot g ∷ records) = (generation < g) × (g < 2 ^ 64)
BeginsAbove generation (r ∷ records) = ⊥
