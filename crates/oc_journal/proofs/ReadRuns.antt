-- Reads after reads, and after a load.
use Rattle.std.proofs.Common.{IsTrue, refl, sym, ◌∙◌, arith}
use Rattle.oc_io.specs.DiskView.{DiskView, StaysAsItWas, IsConsistent}
use Rattle.oc_io.proofs.DiskMoments.{LeavesOnly-then, LeavesOnly-stays, LeavesOnly-now, StaysAsItWas-none, StaysAsItWas-then, GoesOn-then, still_honest, Fails-later}
use Rattle.oc_journal.specs.JournalView.{JournalView, HasFrames, IsLikeAnImage}
use Rattle.oc_journal.specs.Promises.{IsLoaded, LoadsSafely, OnlyReads, NoneFailed, ClosesByRead}

-- no read at all
pub OnlyReads-none : {D : Type 0} (view : D → DiskView) (u : JournalView D) → OnlyReads view u u
OnlyReads-none view u = record { disk = StaysAsItWas-none (view u.disk); frames = λ _. refl; count = refl; end = refl; spare = omega arith }

-- no call at all
pub NoneFailed-none : {D : Type 0} (view : D → DiskView) (u : JournalView D) → NoneFailed view u u
NoneFailed-none view u = record { closed = refl; no_fault = refl }

-- reads after reads
pub OnlyReads-then : {D : Type 0} (view : D → DiskView) (u v w : JournalView D) → (IsTrue (view u.disk).honest → IsConsistent (view u.disk)) → OnlyReads view u v → OnlyReads view v w → OnlyReads view u w
OnlyReads-then view u v w law first second = record {
  disk = StaysAsItWas-then (view u.disk) (view v.disk) (view w.disk) law first.disk second.disk;
  frames = λ h. second.frames (still_honest (view u.disk) (view v.disk) first.disk.goes_on h) ∙ first.frames h;
  count = second.count ∙ first.count;
  end = second.end ∙ first.end;
  spare = omega (arith, first.spare, second.spare);
}

-- calls after calls that did not fail
pub NoneFailed-then : {D : Type 0} (view : D → DiskView) (u v w : JournalView D) → NoneFailed view u v → NoneFailed view v w → NoneFailed view u w
NoneFailed-then view u v w first second = record { closed = second.closed ∙ first.closed; no_fault = second.no_fault ∙ first.no_fault }

-- a read that failed after others
pub ClosesByRead-then : {D : Type 0} (view : D → DiskView) (u v w : JournalView D) → OnlyReads view u v → ClosesByRead view v w → ClosesByRead view u w
ClosesByRead-then view u v w first second = record { fails = Fails-later (view u.disk) (view v.disk) (view w.disk) 0 0 first.disk second.fails; closes = second.closes }

-- reads leave the frames that every crash leaves
pub HasFrames-reads : {D : Type 0} (view : D → DiskView) (u v : JournalView D) → OnlyReads view u v → IsTrue (view u.disk).honest → HasFrames (view u.disk) u.frames → HasFrames (view v.disk) v.frames
HasFrames-reads view u v reads honest kept = λ c left. kept c (reads.disk.images honest c left) ∙ sym (reads.frames honest)

-- reads after a load leave the same images
pub LoadsSafely-reads : (u v w : DiskView) → LoadsSafely u v → (IsTrue v.honest → IsConsistent v) → StaysAsItWas v w → LoadsSafely u w
LoadsSafely-reads u v w load law stays = record {
  goes_on = GoesOn-then u v w load.goes_on stays.goes_on;
  any_moment = λ h.
      let k = still_honest u v load.goes_on h in
      LeavesOnly-then u v w (IsLikeAnImage u) (load.any_moment h) (LeavesOnly-stays v w (IsLikeAnImage u) (law k) k stays (λ c left. LeavesOnly-now u v (IsLikeAnImage u) (load.any_moment h) (law k) c left));
}

-- the journal is still that of the disk
pub IsLoaded-reads : {D : Type 0} (view : D → DiskView) (disk : D) (u v : JournalView D) → IsLoaded view disk u → LoadsSafely (view disk) (view u.disk) → OnlyReads view u v → NoneFailed view u v → IsLoaded view disk v
IsLoaded-reads view disk u v loaded load reads none = record {
  frames = λ h. reads.frames (later h) ∙ loaded.frames h;
  kept = λ h. HasFrames-reads view u v reads (later h) (loaded.kept h);
  header = λ h small. reads.disk.seen (later h) ∙ loaded.header h small;
  journal = loaded.journal;
  unclosed = none.closed ∙ loaded.unclosed;
  no_fault = none.no_fault ∙ loaded.no_fault;
}
  where
    later : IsTrue (view disk).honest → IsTrue (view u.disk).honest
    later h = still_honest (view disk) (view u.disk) load.goes_on h
