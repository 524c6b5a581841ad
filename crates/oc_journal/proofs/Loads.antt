-- The result of loading, and the images of a crash in the course of it.
use Rattle.std.proofs.Common.{◌≡◌, ℕ, Bool, false, IsTrue, List, sym, ◌∙◌, ap, subst, arith}
use Rattle.oc_io.specs.DiskView.{DiskView, IsSafe, StaysAsItWas, LeavesOnly, IsConsistent}
use Rattle.oc_io.proofs.DiskMoments.{LeavesOnly-then, LeavesOnly-weaker, LeavesOnly-now, GoesOn-then, still_honest}
use Rattle.oc_journal.specs.JournalFile.{frames_of, end_of, EndsAt, IsJournalOf, IsNoJournal}
use Rattle.oc_journal.specs.JournalView.{at_extents, IsIndexed, IsLikeAnImage}
use Rattle.oc_journal.specs.Promises.{LoadsSafely}
use Rattle.oc_journal.specs.Scanning.{IsFound}
use Rattle.oc_journal.specs.declared.extent.Extent.{Extent}
use Rattle.oc_journal.proofs.Blocks.{frames_of-ended, journal_ended, journal_of}
use Rattle.oc_journal.proofs.Writes.{IsSettled-from}

-- like an image of a disk whose images are like those of an earlier one
like_then : (u v : DiskView) → ((c : List ℕ) → v.may_leave c → IsLikeAnImage u c) → (c : List ℕ) → IsLikeAnImage v c → IsLikeAnImage u c
like_then u v earlier c (d, left, same) = let first = earlier d left in (first.0, first.1, same ∙ first.2)

-- a run after one that left only files like an image
like_run : (u v w : DiskView) → LeavesOnly u v (IsLikeAnImage u) → IsConsistent v → LeavesOnly v w (IsLikeAnImage v) → LeavesOnly u w (IsLikeAnImage u)
like_run u v w first law second =
    LeavesOnly-then u v w (IsLikeAnImage u) first
    (LeavesOnly-weaker v w (IsLikeAnImage v) (IsLikeAnImage u) (like_then u v (LeavesOnly-now u v (IsLikeAnImage u) first law)) second)

-- two parts of a load
pub LoadsSafely-then : (u v w : DiskView) → LoadsSafely u v → (IsTrue v.honest → IsConsistent v) → LoadsSafely v w → LoadsSafely u w
LoadsSafely-then u v w first law second = record {
  goes_on = GoesOn-then u v w first.goes_on second.goes_on;
  any_moment = λ h. let k = still_honest u v first.goes_on h in like_run u v w (first.any_moment h) (law k) (second.any_moment k);
}

-- reads keep a disk durable
pub IsSafe-stays : (u v : DiskView) → StaysAsItWas u v → IsTrue u.honest → IsSafe u → IsSafe v
IsSafe-stays u v stays honest safe c left =
    safe c (stays.images honest c left) ∙ sym (stays.seen honest)

-- The frames that were found are those that a read gives now.
module _ (v w : DiskView) (extents : List Extent) (offset : ℕ) (found : IsFound v extents offset) (honest : w.honest ≡ v.honest) (size : w.size ≡ v.size) (seen : IsTrue v.honest → w.seen ≡ v.seen) (safe : IsTrue v.honest → IsSafe w) where
  back : IsTrue w.honest → IsTrue v.honest
  back h = subst (λ (b : Bool). IsTrue b) honest h

  ends : IsTrue v.honest → EndsAt w.seen (at_extents w.seen extents) offset
  ends h = subst (λ (file : List ℕ). EndsAt file (at_extents file extents) offset) (sym (seen h)) (found.ends h)

  pub IsIndexed-found : IsIndexed w extents offset false
  IsIndexed-found = record {
    within = found.within;
    start = found.start;
    first = found.first;
    size = omega (arith, found.size, size);
    settled = λ _ h. IsSettled-from w (at_extents w.seen extents) offset (ends (back h)) (safe (back h));
    frames = λ _ h. sym (frames_of-ended w.seen (at_extents w.seen extents) offset (ends (back h)));
  }

  pub found-frames : IsTrue v.honest → at_extents w.seen extents ≡ frames_of v.seen
  found-frames h =
      sym (frames_of-ended w.seen (at_extents w.seen extents) offset (ends h)) ∙ ap frames_of (seen h)

  pub found-journal : IsTrue v.honest → ¬ IsNoJournal v.seen
  found-journal h = journal_ended v.seen (at_extents v.seen extents) offset (found.ends h)

-- An index while no call failed: every crash leaves a journal with the bodies at its extents, and they end where it says.
module _ (v : DiskView) (extents : List Extent) (offset : ℕ) (closed : Bool) (is : IsIndexed v extents offset closed) (is_open : closed ≡ false) (honest : IsTrue v.honest) where
  pub indexed-images : (c : List ℕ) → v.may_leave c → IsJournalOf (at_extents v.seen extents) c
  indexed-images c left =
      let settled = is.settled is_open honest in
      subst (IsJournalOf (at_extents v.seen extents)) (sym (settled.safe c left))
      (subst (λ (bodies : List (List ℕ)). IsJournalOf bodies v.seen) (sym (is.frames is_open honest)) (journal_of v.seen (frames_of v.seen) offset settled.ends))

  pub indexed-end : offset ≡ end_of (at_extents v.seen extents)
  indexed-end = (is.settled is_open honest).ends.end ∙ ap end_of (sym (is.frames is_open honest))
