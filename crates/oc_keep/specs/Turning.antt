-- Turning the control files over.
use Rattle.std.specs.Prelude.{◌≡◌, ◌⊎◌, ℕ, ◌+◌, ◌≤◌, false, List, [], ◌∷◌, length}
use Rattle.oc_base.specs.declared.limits.TheConstants.{MAX_BASE_ACKED, MAX_FRAME_RECORDS}
use Rattle.oc_model.specs.declared.record.Record.{Record}
use Rattle.oc_model.specs.Node.{Durable}
use Rattle.oc_model.specs.Snapshot.{snapshot}
use Rattle.oc_io.specs.DiskView.{DiskView, GoesOn}
use Rattle.oc_io.specs.Faults.{Rose}
use Rattle.oc_record.specs.Spelling.{records_bytes}
use Rattle.oc_store.specs.Sides.{opposite}
use Rattle.oc_store.specs.StoreView.{StoreView, first_disk, second_disk, AreHonest, Recovers, RecoversEither}

-- the snapshot of a node fits in a frame, and its log in a base
pub record IsShort (generation : ℕ) (kept : Durable) : Type 0 where
  pub based : kept.log.length ≤ MAX_BASE_ACKED
  pub few : length (snapshot generation kept) ≤ MAX_FRAME_RECORDS

-- the disks of a store at a later time
pub record StoreGoesOn {D : Type 0} (view : D → DiskView) (old new : StoreView D) : Type 0 where
  pub first : GoesOn (view (first_disk old)) (view (first_disk new))
  pub second : GoesOn (view (second_disk old)) (view (second_disk new))

-- the same disks at no earlier time
pub record StoreIsLater {D : Type 0} (view : D → DiskView) (old new : StoreView D) : Type 0 where
  pub first : (view (first_disk old)).moment ≤ (view (first_disk new)).moment
  pub second : (view (second_disk old)).moment ≤ (view (second_disk new)).moment

-- these records are the one frame of the other file, which is the current one now, and every crash leaves them
pub record Replaces {D : Type 0} (view : D → DiskView) (rs : List Record) (old new : StoreView D) : Type 0 where
  pub frames : AreHonest view old → new.current.frames ≡ records_bytes rs ∷ []
  pub kept : AreHonest view old → Recovers view new (records_bytes rs ∷ [])
  pub other : new.other ≡ old.current
  pub side : new.side ≡ opposite old.side
  pub generation : new.generation ≡ old.generation + 1
  pub unclosed : new.closed ≡ false
  pub goes_on : StoreGoesOn view old new
  pub later : AreHonest view old → StoreIsLater view old new
  pub any_moment : AreHonest view old → RecoversEither view old new old.current.frames (records_bytes rs ∷ [])

-- a disk failed, and a crash at any moment leaves the old frames or these records
pub record ClosesByTurning {D : Type 0} (view : D → DiskView) (rs : List Record) (old new : StoreView D) : Type 0 where
  pub any_moment : AreHonest view old → RecoversEither view old new old.current.frames (records_bytes rs ∷ [])
  pub rose : Rose (view (first_disk old)).faults (view (first_disk new)).faults ⊎ Rose (view (second_disk old)).faults (view (second_disk new)).faults
  pub goes_on : StoreGoesOn view old new
  pub later : AreHonest view old → StoreIsLater view old new
