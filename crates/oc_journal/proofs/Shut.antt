-- The refusals of a call, and the journal after them.
use Rattle.std.proofs.Common.{◌≡◌, ℕ, Bool, false, IsTrue, IsErrOf, Err, List, refl, sym, subst, arith}
use Rattle.oc_io.specs.DiskView.{DiskView, Takes, LeavesOnly}
use Rattle.oc_journal.specs.JournalFile.{frames_of, IsBeforeOrAfter, IsAllOrNone}
use Rattle.oc_journal.specs.JournalView.{JournalView, at_extents, IsIndexed}
use Rattle.oc_journal.specs.Promises.{AppendsSafely, RestartsSafely}
use Rattle.oc_journal.specs.declared.errors.AppendError.TheVariants.{Closed as AppendClosed, Full, Disk as AppendDisk}
use Rattle.oc_journal.specs.declared.errors.RestartError.TheVariants.{Closed as RestartClosed, Disk as RestartDisk}
use Rattle.oc_journal.specs.declared.extent.Extent.{Extent}

-- no journal is both closed and open
pub not_both : {b : Bool} → IsTrue b → b ≡ false → ⊥
not_both shut is_open = absurd cc

-- no error is another one
pub closed_not_full : {T : Type 0} → IsErrOf {T = T} (Err AppendClosed) Full → ⊥
closed_not_full is = absurd cc

-- a refusal of an append has one cause
pub closed_not_disk : {T : Type 0} → IsErrOf {T = T} (Err AppendClosed) AppendDisk → ⊥
closed_not_disk is = absurd cc

-- `Full` is not `Closed`
pub full_not_closed : {T : Type 0} → IsErrOf {T = T} (Err Full) AppendClosed → ⊥
full_not_closed is = absurd cc

-- `Full` is not `Disk`
pub full_not_disk : {T : Type 0} → IsErrOf {T = T} (Err Full) AppendDisk → ⊥
full_not_disk is = absurd cc

-- `Disk` is not `Closed`
pub disk_not_closed : {T : Type 0} → IsErrOf {T = T} (Err AppendDisk) AppendClosed → ⊥
disk_not_closed is = absurd cc

-- a refusal of a restart has one cause
pub shut_not_failed : {T : Type 0} → IsErrOf {T = T} (Err RestartClosed) RestartDisk → ⊥
shut_not_failed is = absurd cc

-- `Disk` is not `Closed`, of a restart
pub failed_not_shut : {T : Type 0} → IsErrOf {T = T} (Err RestartDisk) RestartClosed → ⊥
failed_not_shut is = absurd cc

-- no call takes nothing
takes_none : (v : DiskView) (n k : ℕ) → Takes n k v v
takes_none v n k = record {
  goes_on = record { honest = refl; reliable = refl; name = refl; listed = refl; count = omega arith };
  moment = λ _. omega arith;
  room = omega arith;
  calls = omega arith;
}

-- a closed journal is left alone
pub AppendsSafely-shut : {D : Type 0} (view : D → DiskView) (body : List ℕ) (u : JournalView D) → IsTrue u.closed → AppendsSafely view body u u
AppendsSafely-shut view body u shut = record { any_moment = λ is_open. absurd (not_both shut is_open); takes = takes_none (view u.disk) _ _ }

-- a closed journal is not begun again
pub RestartsSafely-shut : {D : Type 0} (view : D → DiskView) (u : JournalView D) → IsTrue u.closed → RestartsSafely view u u
RestartsSafely-shut view u shut = record { any_moment = λ is_open. absurd (not_both shut is_open); takes = takes_none (view u.disk) _ _; spare = omega arith }

-- the bodies of an open index are the frames of the disk
module _ (v w : DiskView) (extents : List Extent) (offset : ℕ) (closed : Bool) (is : IsIndexed v extents offset closed) (is_open : closed ≡ false) (h : IsTrue v.honest) where
  pub leaves_all_or_none : LeavesOnly v w (IsAllOrNone (frames_of v.seen)) → LeavesOnly v w (IsAllOrNone (at_extents v.seen extents))
  leaves_all_or_none run = subst (λ (fs : List (List ℕ)). LeavesOnly v w (IsAllOrNone fs)) (sym (is.frames is_open h)) run

  pub leaves_before_or_after : (body : List ℕ) → LeavesOnly v w (IsBeforeOrAfter (frames_of v.seen) body) → LeavesOnly v w (IsBeforeOrAfter (at_extents v.seen extents) body)
  leaves_before_or_after body run = subst (λ (fs : List (List ℕ)). LeavesOnly v w (IsBeforeOrAfter fs body)) (sym (is.frames is_open h)) run
