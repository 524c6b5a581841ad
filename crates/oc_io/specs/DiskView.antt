-- Disks, as the layers above see them, and the effects of their calls.
use Rattle.std.specs.Prelude.{◌≡◌, ◌⊎◌, ℕ, ◌+◌, ◌<◌, ◌≤◌, max, Bool, IsTrue, List, ◌++◌, length, take, drop}
use Rattle.oc_io.specs.declared.disk.TheConstants.{MAX_RELIABLE_BYTES}
use Rattle.oc_io.specs.Faults.{NoFall, Rose}

-- the facts about a disk at one moment
pub record DiskView : Type 1 where
  -- the bytes that a read gives now
  pub seen : List ℕ
  -- the images that a crash now may leave
  pub may_leave : List ℕ → Type 0
  -- the number of calls of `write_at` and `sync` so far
  pub moment : ℕ
  -- the images that a crash at some moment since that one may have left
  pub since : ℕ → List ℕ → Type 0
  -- the disk keeps the disk model
  pub honest : Bool
  -- the size in bytes, as the last `size` gave it and `write_at` raised it
  pub size : ℕ
  -- the spare room in bytes
  pub room : ℕ
  -- the spare room, in calls of `write_at` and `sync`
  pub calls : ℕ
  -- the number of failed calls
  pub faults : ℕ
  -- no call within the size and the spare room fails
  pub reliable : Bool
  -- the names of the borrows through which the disk is reached
  pub name : List ℕ
  -- the calls that were listed to fail, where the disk is one on which failures can be set
  pub listed : List ℕ

-- a crash leaves this image and no other
abbrev pub Only : List ℕ → (List ℕ → Type 0) → Type 0
Only bytes images = (c : List ℕ) → images c → c ≡ bytes

-- a crash leaves the bytes that a read gives
abbrev pub IsSafe : DiskView → Type 0
IsSafe v = Only v.seen v.may_leave

-- the new bytes are the old ones with these bytes at this offset
abbrev pub Holds : List ℕ → ℕ → List ℕ → List ℕ → Type 0
Holds old at bytes new = new ≡ take at old ++ bytes ++ drop (at + length bytes) old

-- an image after a crash in a write of n bytes: any bytes in the range and past the old end, the old bytes elsewhere
pub record IsTorn (at n : ℕ) (old new : List ℕ) : Type 0 where
  pub before : take at new ≡ take at old
  pub after : drop (at + n) new ≡ drop (at + n) old
  pub no_shorter : length old ≤ length new
  pub no_longer : length new ≤ max (length old) (at + n)

-- each new image is an old image after a crash in this write
abbrev pub Tears : ℕ → ℕ → DiskView → DiskView → Type 0
Tears at n old new = (c : List ℕ) → new.may_leave c → (d : List ℕ) × old.may_leave d × IsTorn at n d c

-- each new image is an old image
abbrev pub AddsNoImage : DiskView → DiskView → Type 0
AddsNoImage old new = (c : List ℕ) → new.may_leave c → old.may_leave c

-- Time passes: a crash since t may have left an image that it may have left before, or one that it may leave now.
pub record Elapses (old new : DiskView) : Type 0 where
  pub later : old.moment ≤ new.moment
  pub nothing_else : (t : ℕ) (c : List ℕ) → t ≤ old.moment → new.since t c → old.since t c ⊎ new.may_leave c
  pub keeps : (t : ℕ) (c : List ℕ) → t ≤ old.moment → old.since t c → new.since t c

-- the same disk at a later time: as honest and as reliable as before, reached by the same borrows, with the same calls listed to fail
pub record GoesOn (old new : DiskView) : Type 0 where
  pub honest : new.honest ≡ old.honest
  pub reliable : new.reliable ≡ old.reliable
  pub name : new.name ≡ old.name
  pub listed : new.listed ≡ old.listed
  pub count : NoFall old.faults new.faults

-- a call that writes nothing: a read gives the same bytes, no image was added, and the spare room is unchanged
pub record StaysAsItWas (old new : DiskView) : Type 0 where
  pub goes_on : GoesOn old new
  pub time : IsTrue old.honest → Elapses old new
  pub seen : IsTrue old.honest → new.seen ≡ old.seen
  pub images : IsTrue old.honest → AddsNoImage old new
  pub moment : IsTrue old.honest → new.moment ≡ old.moment
  pub room : old.room ≤ new.room
  pub calls : old.calls ≤ new.calls

-- at most this number of bytes and calls of the spare room were used, and at most this number of moments passed
pub record Takes (bytes turns : ℕ) (old new : DiskView) : Type 0 where
  pub goes_on : GoesOn old new
  pub moment : IsTrue old.honest → new.moment ≤ old.moment + turns
  pub room : old.room ≤ new.room + bytes
  pub calls : old.calls ≤ new.calls + turns

-- Calls of `write_at` and `sync`, at most this number with this number of bytes, can't fail: the disk is reliable and has the room.
pub record CannotFail (bytes turns : ℕ) (v : DiskView) : Type 0 where
  pub reliable : IsTrue v.reliable
  pub room : bytes ≤ v.room
  pub calls : turns ≤ v.calls

-- one of these calls failed: the count of faults rose, and the calls were not ones that can't fail
pub record Fails (bytes turns : ℕ) (old new : DiskView) : Type 0 where
  pub count : Rose old.faults new.faults
  pub unsure : ¬ CannotFail bytes turns old

-- a call without a write failed, so the disk is not reliable
abbrev pub FailsToRead : DiskView → DiskView → Type 0
FailsToRead old new = Fails 0 0 old new

-- no call failed
abbrev pub HasNoFault : DiskView → DiskView → Type 0
HasNoFault old new = new.faults ≡ old.faults

-- A crash at any moment since the old disk leaves a file with the property P.
pub record LeavesOnly (old new : DiskView) (P : List ℕ → Type 0) : Type 0 where
  pub later : old.moment ≤ new.moment
  pub each : (c : List ℕ) → new.since old.moment c → P c
  -- the same for a run that began earlier
  pub before : (t : ℕ) (c : List ℕ) → t ≤ old.moment → new.since t c → old.since t c ⊎ P c

-- the properties of every honest disk
pub record IsConsistent (v : DiskView) : Type 0 where
  pub size : v.size ≡ length v.seen
  -- a read gives one of the images
  pub reads : v.may_leave v.seen
  -- a crash at this moment counts as one since any earlier moment
  pub counts_now : (t : ℕ) (c : List ℕ) → t ≤ v.moment → v.may_leave c → v.since t c
  -- a crash since this moment is a crash at this moment
  pub only_now : (c : List ℕ) → v.since v.moment c → v.may_leave c

-- the properties of every reliable disk: it is honest, and its content and spare room together have a limit
pub record IsReliable (v : DiskView) : Type 0 where
  pub honest : IsTrue v.honest
  pub fits : 0 < v.room → v.size + v.room ≤ MAX_RELIABLE_BYTES
