-- A load is a run of calls. What is said here of the first disk is told by a later call.
use Rattle.std.proofs.Common.{◌≡◌, ◌≢◌, ℕ, ◌<◌, ◌≤◌, false, IsTrue, IsErrOf, Ok, Err, List, [], length, take, inl, refl, sym, ◌∙◌, ap, subst, arith}
use Rattle.oc_io.specs.DiskView.{DiskView, GoesOn, StaysAsItWas, Elapses, AddsNoImage, Fails, FailsToRead, IsConsistent, IsSafe}
use Rattle.oc_io.proofs.Counts.{Rose-after}
use Rattle.oc_io.proofs.DiskMoments.{GoesOn-then, LeavesOnly-on, LeavesOnly-stays, still_honest, still_reliable}
use Rattle.oc_journal.specs.JournalFile.{frames_of, magic, IsNoJournal}
use Rattle.oc_journal.specs.JournalView.{at_extents, IsSettled, IsIndexed, IsLikeAnImage}
use Rattle.oc_journal.specs.Promises.{LoadsSafely}
use Rattle.oc_journal.specs.declared.errors.LoadError.TheVariants.{Disk, NotJournal, Memory}
use Rattle.oc_journal.specs.declared.extent.Extent.{Extent}
use Rattle.oc_journal.proofs.Extents.{IsIndexed-none}
use Rattle.oc_journal.proofs.Steps.{frames_of-small}

-- a value is no error, and no error is another one
pub no_error : {T E : Type 0} (x : T) (y : E) → IsErrOf (Ok x) y → ⊥
no_error x y is = absurd cc

-- a failed call is no bad file
pub disk_not_file : {T : Type 0} → IsErrOf {T = T} (Err Disk) NotJournal → ⊥
disk_not_file is = absurd cc

-- a lack of memory is not a file that is no journal
pub memory_not_file : {T : Type 0} → IsErrOf {T = T} (Err Memory) NotJournal → ⊥
memory_not_file is = absurd cc

-- a lack of memory is not a failed call
pub memory_not_disk : {T : Type 0} → IsErrOf {T = T} (Err Memory) Disk → ⊥
memory_not_disk is = absurd cc

-- an error with a value of another type
pub same_error : {A B E : Type 0} (x y : E) → IsErrOf {T = A} {E = E} (Err x) y → IsErrOf {T = B} {E = E} (Err x) y
same_error x y is = let same : x ≡ y = cc in ap Err same

-- a read that fails after other calls
pub read_fails_after : (u v w : DiskView) → GoesOn u v → FailsToRead v w → FailsToRead u w
read_fails_after u v w goes failed = record {
  count = Rose-after _ _ _ goes.count failed.count;
  unsure = λ sure. failed.unsure (record { reliable = still_reliable u v goes sure.reliable; room = omega arith; calls = omega arith });
}

-- a write that has the room fails on no reliable disk
pub write_fails_after : (u v w : DiskView) (n j : ℕ) → GoesOn u v → n ≤ v.room → j ≤ v.calls → Fails n j v w → FailsToRead u w
write_fails_after u v w n j goes room calls failed = record {
  count = Rose-after _ _ _ goes.count failed.count;
  unsure = λ sure. failed.unsure (record { reliable = still_reliable u v goes sure.reliable; room = room; calls = calls });
}

-- a disk that is durable at the start is durable later, if it is the same disk
pub safe_later : (u v : DiskView) → GoesOn u v → (IsTrue u.honest → IsSafe v) → IsTrue v.honest → IsSafe v
safe_later u v goes safe honest = safe (subst (λ b. IsTrue b) goes.honest honest)

-- reads keep a disk durable
pub stays_safely : (u v : DiskView) → (IsTrue u.honest → IsConsistent u) → StaysAsItWas u v → LoadsSafely u v
stays_safely u v law stays = record {
  goes_on = stays.goes_on;
  any_moment = λ h. LeavesOnly-stays u v (IsLikeAnImage u) (law h) h stays (λ c left. (c, left, refl));
}

-- a sync after reads keeps a disk durable
pub synced_safely : (u v w : DiskView) → (IsTrue u.honest → IsConsistent u) → StaysAsItWas u v → GoesOn v w → (IsTrue v.honest → Elapses v w) → (IsTrue v.honest → AddsNoImage v w) → LoadsSafely u w
synced_safely u v w law stays goes time images = record {
  goes_on = GoesOn-then u v w stays.goes_on goes;
  any_moment = λ h.
      let k = still_honest u v stays.goes_on h in
      LeavesOnly-on u v w (IsLikeAnImage u) ((stays_safely u v law stays).any_moment h) (time k) (λ c left. (c, stays.images h c (images k c left), refl));
}

-- The size of a file that a read gave as it is at the start.
module _ (u v : DiskView) (size : ℕ) (is : size ≡ v.size) (seen : v.seen ≡ u.seen) (law : IsConsistent v) where
  pub short_at_start : size ≤ 9 → length u.seen ≤ 9
  short_at_start short = omega (arith, short, is, law.size, ap length seen)

  pub no_journal_at_start : (size ≤ 9 → ⊥) → take 8 v.seen ≢ magic → IsNoJournal u.seen
  no_journal_at_start long other = (omega (arith, long, is, law.size, ap length seen), inl (λ e. other (ap (take 8) seen ∙ e)))

-- a short file is a new one
pub short_is_journal : (file : List ℕ) → length file ≤ 9 → ¬ IsNoJournal file
short_is_journal file short broken = omega (arith, short, broken.0)

-- The index of a new file, which was no longer than a header.
module _ (u v w : DiskView) (extents : List Extent) (empty : extents ≡ []) where
  pub IsIndexed-new : w.honest ≡ v.honest → 8 < w.size → (IsTrue v.honest → IsSettled w 8) → (IsTrue v.honest → frames_of w.seen ≡ []) → IsIndexed w extents 8 false
  IsIndexed-new honest size settled none =
      let back : IsTrue w.honest → IsTrue v.honest = λ h. subst (λ b. IsTrue b) honest h in
      IsIndexed-none w w extents 8 false empty refl (omega arith) size (omega arith) (λ h. settled (back h)) (λ h. none (back h))

  pub frames-new : length u.seen ≤ 9 → at_extents w.seen extents ≡ frames_of u.seen
  frames-new short = ap (at_extents w.seen) empty ∙ sym (frames_of-small u.seen short)
