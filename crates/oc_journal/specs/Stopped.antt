-- A frame after the calls that append it were stopped.
use Rattle.std.specs.Prelude.{◌≡◌, ℕ, ◌+◌, ◌≤◌, List, [], ◌∷◌, ◌++◌, Option, None, Some, if◌then◌else◌}
use Rattle.oc_base.specs.declared.limits.TheConstants.{MAX_JOURNAL_BYTES}
use Rattle.oc_base.specs.Stops.{is_kept_new}
use Rattle.oc_io.specs.MemDiskView.{MemDiskView, refused, wrote}
use Rattle.oc_io.specs.declared.failures.Stop.{Stop}
use Rattle.oc_journal.specs.JournalView.{JournalView}

-- An append of n bytes can be stopped: no call of the disk is listed to fail, the room is there, and the file stays within its limit.
pub record CanStop (n : ℕ) (journal : JournalView MemDiskView) : Type 0 where
  pub no_fault : journal.disk.failing.calls.listed ≡ []
  pub room : n + 6 ≤ journal.disk.room
  pub calls : 4 ≤ journal.disk.calls
  pub fits : journal.end + 6 + n ≤ MAX_JOURNAL_BYTES

-- the frames after a stop
abbrev pub frames_after : ℕ → ℕ → List (List ℕ) → List ℕ → List (List ℕ)
frames_after calls image frames body = if is_kept_new calls image then frames ++ body ∷ [] else frames

-- the number of calls that succeed before the stop
abbrev pub left_of : Option Stop → ℕ
left_of None = 0
left_of (Some stop) = stop.left

-- the byte that a crash leaves in unsynced bytes
abbrev pub image_of : Option Stop → ℕ
image_of None = 0
image_of (Some stop) = stop.image

-- a stop in a write and a sync: before the write, or between the two
pub data IsCut (old : MemDiskView) (at : ℕ) (bytes : List ℕ) (new : MemDiskView) : Type 0 where
  before : left_of old.failing.stop ≡ 0 → new ≡ refused old → IsCut old at bytes new
  between : left_of old.failing.stop ≡ 1 → new ≡ refused (wrote old at bytes) → IsCut old at bytes new
