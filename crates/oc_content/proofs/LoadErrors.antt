-- An error of a load is one of its kinds and no other.
use Rattle.std.proofs.Common.{ℕ, IsErrOf, Err, refl}
use Rattle.oc_journal.specs.declared.errors.FrameError.{FrameError}
use Rattle.oc_journal.specs.declared.errors.FrameError.TheVariants as frames
use Rattle.oc_journal.specs.declared.errors.FileError.TheVariants.{Disk, NotJournal, BadFrame, Memory}
use Rattle.oc_journal.specs.Errors.{of_frame}

-- memory ran out
pub memory_not_bad : {T : Type 0} (i : ℕ) → IsErrOf {T = T} (Err Memory) (BadFrame i) → ⊥
memory_not_bad i is = absurd cc

-- which is no failed call
pub memory_not_disk : {T : Type 0} → IsErrOf {T = T} (Err Memory) Disk → ⊥
memory_not_disk is = absurd cc

-- a lack of memory is no bad file
pub memory_not_journal : {T : Type 0} → IsErrOf {T = T} (Err Memory) NotJournal → ⊥
memory_not_journal is = absurd cc

-- a frame is bad
pub bad_not_disk : {T : Type 0} (i : ℕ) → IsErrOf {T = T} (Err (BadFrame i)) Disk → ⊥
bad_not_disk i is = absurd cc

-- a file with a bad frame is a journal
pub bad_not_journal : {T : Type 0} (i : ℕ) → IsErrOf {T = T} (Err (BadFrame i)) NotJournal → ⊥
bad_not_journal i is = absurd cc

-- a frame was not read
pub unread_not_bad : {T : Type 0} (e : FrameError) (i : ℕ) → IsErrOf {T = T} (Err (of_frame e)) (BadFrame i) → ⊥
unread_not_bad frames.Disk i is = absurd cc
unread_not_bad frames.Memory i is = absurd cc

-- a file with an unread frame is a journal
pub unread_not_journal : {T : Type 0} (e : FrameError) → IsErrOf {T = T} (Err (of_frame e)) NotJournal → ⊥
unread_not_journal frames.Disk is = absurd cc
unread_not_journal frames.Memory is = absurd cc

-- a call failed where the journal says so
pub unread_disk : {T U : Type 0} (e : FrameError) → IsErrOf {T = T} (Err (of_frame e)) Disk → IsErrOf {T = U} (Err e) frames.Disk
unread_disk frames.Disk is = refl
unread_disk frames.Memory is = absurd cc
