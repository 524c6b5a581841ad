-- A disk in memory: its bytes, the record of its calls, the spare room, and the calls that fail.
use Rattle.std.specs.Prelude.{◌≡◌, ℕ, ◌+◌, ◌-◌, ◌<◌, true, List, [], ◌∷◌, ◌++◌, length, take, drop, max, min, Option, None, Some, refl}
use Rattle.std.proofs.Common.{inl, inr, arith}
use Rattle.oc_io.specs.declared.disk.TheConstants.{MAX_RELIABLE_BYTES}
use Rattle.oc_io.specs.DiskView.{DiskView, IsConsistent, IsReliable}
use Rattle.oc_io.specs.Calls.{Call, Wrote, Synced, crashed}
use Rattle.oc_io.specs.DiskPast.{MayLeave, HadLeft}
use Rattle.oc_io.specs.declared.failures.Stop.{Stop}
use Rattle.oc_io.specs.Tally.{called, faulted, IsListed}
use Rattle.oc_io.specs.Failing.{Failing, no_failures, passed, none_fails, IsStopped}

-- the bytes, the successful calls (newest first), the numbers of further bytes and calls for which there is memory, the failing calls
pub record MemDiskView : Type 0 where
  pub bytes : List ℕ
  pub past : List Call
  pub room : ℕ
  pub calls : ℕ
  pub failing : Failing

-- a new disk with these bytes, all of them synced
abbrev pub disk_of : List ℕ → MemDiskView
disk_of bytes = record { bytes = bytes; past = []; room = 0; calls = 0; failing = no_failures }

-- the disk after a failed call: only the counts changed
abbrev pub refused : MemDiskView → MemDiskView
refused d = record d { failing = record d.failing { calls = faulted (called d.failing.calls) } }

-- the disk after a successful call of `size` or `read_at`
abbrev pub read : MemDiskView → MemDiskView
read d = record d { failing = record d.failing { calls = called d.failing.calls } }

-- the disk after a call of `write_at` or `sync` was admitted
abbrev pub admitted : MemDiskView → MemDiskView
admitted d = record d { failing = record { calls = called d.failing.calls; stop = passed d.failing.stop } }

-- the bytes after a write
abbrev pub overwritten : List ℕ → ℕ → List ℕ → List ℕ
overwritten bytes at new = take at bytes ++ new ++ drop (at + length new) bytes

-- the disk after a write, which used its room and is in the record
abbrev pub done : MemDiskView → ℕ → List ℕ → MemDiskView
done d at bytes = record {
  bytes = overwritten d.bytes at bytes;
  past = Wrote at (take (length bytes) (drop at d.bytes)) (length bytes) ∷ d.past;
  room = d.room - length bytes;
  calls = d.calls - 1;
  failing = d.failing;
}

-- the disk after a successful call of `write_at`
abbrev pub wrote : MemDiskView → ℕ → List ℕ → MemDiskView
wrote d at bytes = done (admitted d) at bytes

-- the disk after a successful call of `sync`
abbrev pub synced : MemDiskView → MemDiskView
synced d = record (admitted d) { past = Synced ∷ d.past; calls = d.calls - 1 }

-- the disk after a successful `reserve`
abbrev pub reserved : MemDiskView → ℕ → MemDiskView
reserved d bytes = record d { room = max d.room bytes; calls = max d.calls 16 }

-- the bytes after a crash: where a stop was set, each byte that was written since the last sync is the byte of the stop
abbrev pub crash_by : Option Stop → List Call → List ℕ → List ℕ
crash_by None past bytes = bytes
crash_by (Some stop) past bytes = crashed stop.image past bytes

-- the bytes of a disk after a crash
abbrev pub crash_of : MemDiskView → List ℕ
crash_of d = crash_by d.failing.stop d.past d.bytes

-- the reason why a call of `write_at` or `sync` of n bytes fails
pub data Refuses (d : MemDiskView) (n : ℕ) : Type 0 where
  by_list : IsListed d.failing.calls → Refuses d n
  no_room : d.room < n → Refuses d n
  no_calls : d.calls ≡ 0 → Refuses d n
  by_stop : IsStopped d.failing.stop → Refuses d n

-- The disk as the layers above see it. Its spare room ends at the greatest size of a disk in memory.
abbrev pub view_of : MemDiskView → DiskView
view_of d = record {
  seen = d.bytes;
  may_leave = MayLeave d.bytes d.past;
  moment = length d.past;
  since = HadLeft d.bytes d.past;
  honest = true;
  size = length d.bytes;
  room = min d.room (MAX_RELIABLE_BYTES - length d.bytes);
  calls = d.calls;
  faults = d.failing.calls.faults;
  reliable = none_fails d.failing.calls.listed d.failing.stop;
  name = [];
  listed = d.failing.calls.listed;
}

-- the bytes that a read gives are an image
pub may_leave_seen : (bytes : List ℕ) (past : List Call) → MayLeave bytes past bytes
may_leave_seen bytes [] = refl
may_leave_seen bytes (Synced ∷ past) = refl
may_leave_seen bytes (Wrote at over n ∷ past) = inl refl

-- an image that a crash may leave now is one since any earlier moment
had_left_now : (bytes : List ℕ) (past : List Call) (t : ℕ) (c : List ℕ) → MayLeave bytes past c → HadLeft bytes past t c
had_left_now bytes [] t c now = now
had_left_now bytes (call ∷ past) t c now = inl now

-- an image since this moment is one that a crash may leave now
only_left_now : (bytes : List ℕ) (past : List Call) (c : List ℕ) → HadLeft bytes past (length past) c → MayLeave bytes past c
only_left_now bytes [] c left = left
only_left_now bytes (call ∷ past) c (inl now) = now
only_left_now bytes (call ∷ past) c (inr earlier) = absurd (omega (arith, earlier.0))

-- a disk in memory keeps the properties of an honest disk
pub view_of-consistent : (d : MemDiskView) → IsConsistent (view_of d)
view_of-consistent d = record {
  size = refl;
  reads = may_leave_seen d.bytes d.past;
  counts_now = λ t c earlier now. had_left_now d.bytes d.past t c now;
  only_now = λ c left. only_left_now d.bytes d.past c left;
}

-- a disk in memory keeps the limit of a reliable disk
pub view_of-reliable : (d : MemDiskView) → IsReliable (view_of d)
view_of-reliable d = record { honest = refl; fits = λ some. omega (arith, some) }
