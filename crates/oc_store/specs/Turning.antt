-- The current one of two journals, and the other one while a snapshot replaces its frames.
use Rattle.std.specs.Prelude.{◌≡◌, ◌⊎◌, ℕ, ◌+◌, Bool, true, false, IsTrue, nat_lt, Option, None, Some, List, [], ◌∷◌, length}
use Rattle.oc_io.specs.DiskView.{DiskView, Takes, Fails, HasNoFault, LeavesOnly}
use Rattle.oc_journal.specs.JournalFile.{frames_of}
use Rattle.oc_journal.specs.JournalView.{JournalView, HasFrames}

-- whether one generation is smaller than another; a file without frames has none, which is smaller than all
abbrev pub is_below : Option ℕ → Option ℕ → Bool
is_below x None = false
is_below None (Some h) = true
is_below (Some g) (Some h) = nat_lt g h

-- a file with these frames, with none, or with the new one alone
abbrev pub IsReplaced : List (List ℕ) → List ℕ → List ℕ → Type 0
IsReplaced frames body file = (frames_of file ≡ frames) ⊎ (frames_of file ≡ []) ⊎ (frames_of file ≡ body ∷ [])

-- this frame replaced the frames of a journal, and every crash leaves it
pub record HoldsOnly {D : Type 0} (view : D → DiskView) (body : List ℕ) (old new : JournalView D) : Type 0 where
  pub frames : IsTrue (view old.disk).honest → new.frames ≡ body ∷ []
  pub kept : IsTrue (view old.disk).honest → HasFrames (view new.disk) new.frames
  pub end : new.end ≡ 13 + length body
  pub spare : new.spare + 1 ≡ old.spare + length old.frames
  pub unclosed : new.closed ≡ false
  pub no_fault : HasNoFault (view old.disk) (view new.disk)

-- the calls that replace the frames: at every moment each image has the old frames, none, or the new one alone
pub record ReplacesSafely {D : Type 0} (view : D → DiskView) (body : List ℕ) (old new : JournalView D) : Type 0 where
  pub any_moment : IsTrue (view old.disk).honest → LeavesOnly (view old.disk) (view new.disk) (IsReplaced old.frames body)
  pub takes : Takes (length body + 7) 6 (view old.disk) (view new.disk)

-- one of the calls that replace the frames failed, which closes the journal
pub record FailsToReplace {D : Type 0} (view : D → DiskView) (body : List ℕ) (old new : JournalView D) : Type 0 where
  pub fails : Fails (length body + 7) 6 (view old.disk) (view new.disk)
  pub closes : new.closed ≡ true
