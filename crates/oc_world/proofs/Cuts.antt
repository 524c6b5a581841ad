-- A stop in an input that was made ready.
use Rattle.std.proofs.Common.{◌≡◌, ℕ, Bool, true, false, ◌&&◌, if◌then◌else◌, IsTrue, List, [], ◌∷◌, length, Option, Some, None, refl, ap, ◌∙◌, arith}
use Rattle.oc_base.specs.Stops.{is_kept_new}
use Rattle.oc_journal.specs.JournalView.{JournalView}
use Rattle.oc_journal.specs.Stopped.{CanStop}
use Rattle.oc_keep.specs.declared.ready.Write.{Write}
use Rattle.oc_keep.specs.declared.ready.Write.TheVariants as written
use Rattle.oc_keep.specs.Files.{AreReliable, Survives, disks_in}
use Rattle.oc_keep.specs.KeptView.{KeptView, disks_of, header_of, node_of}
use Rattle.oc_keep.specs.Promises.{LeavesFiles}
use Rattle.oc_keep.specs.ReadyView.{CanCommit, CanStopWrite, CanWrite, ReadyView, is_written, outcome_of}
use Rattle.oc_keep.specs.Writing.{IsRoomFor}
use Rattle.oc_model.specs.declared.input.Input.{Input}
use Rattle.oc_model.specs.NextWorld.{keeps_write, writes}
use Rattle.oc_model.specs.Node.{Node, Outcome}
use Rattle.oc_model.specs.Step.{step}
use Rattle.oc_node.specs.Planned.{PlanView}
use Rattle.oc_io.specs.Failing.{none_fails}
use Rattle.oc_io.specs.MemDiskView.{MemDiskView, view_of}
use Rattle.oc_io.specs.declared.failures.Stop.{Stop}
use Rattle.oc_store.specs.ControlFiles.{at_side}
use Rattle.oc_store.specs.declared.errors.Side.{Side}
use Rattle.oc_store.specs.declared.errors.Side.TheVariants.{First, Second}
use Rattle.oc_keep.specs.declared.files.Files.{Files}
use Rattle.oc_world.specs.ProcessState.{IsLeft, IsOpen}
use Rattle.oc_world.proofs.Left.{left_of}

-- where no call fails none is listed
none_listed : (listed : List ℕ) (stop : Option Stop) → IsTrue (none_fails listed stop) → listed ≡ []
none_listed [] stop h = refl
none_listed (call ∷ calls) None h = absurd cc
none_listed (call ∷ calls) (Some s) h = absurd cc

-- the disk of the current file is reliable
current_reliable : (side : Side) (c o : MemDiskView) → IsTrue (view_of (at_side side c o)).reliable → IsTrue (view_of (at_side side o c)).reliable → IsTrue (view_of c).reliable
current_reliable First c o first second = first
current_reliable Second c o first second = second

-- an append with the room for it can be stopped on a reliable disk
journal_stops : (j : JournalView MemDiskView) (n : ℕ) → IsTrue (view_of j.disk).reliable → IsRoomFor view_of j n → CanStop n j
journal_stops j n reliable room =
    let fits = room.fits reliable in
    record {
      no_fault = none_listed j.disk.failing.calls.listed j.disk.failing.stop reliable;
      room = omega (arith, room.room);
      calls = room.calls;
      fits = omega (arith, fits);
    }

-- an input that was prepared can be stopped
write_stops : (k : KeptView MemDiskView) (p : PlanView) (w : Write) → AreReliable view_of (disks_of k) → CanWrite view_of k p w → CanStopWrite k w
write_stops k p written.Nothing reliable can = tt
write_stops k p (written.Records frame) reliable can = journal_stops k.store.current (length frame) (current_reliable k.store.side k.store.current.disk k.store.other.disk reliable.control reliable.alternate) can.2
write_stops k p (written.Content piece) reliable can = journal_stops k.content.journal (length piece.body) reliable.content can.1.room

pub can_stop : (k : KeptView MemDiskView) (r : ReadyView) → IsOpen view_of k → CanCommit view_of k r → CanStopWrite k r.write
can_stop k r is can = write_stops k r.plan r.write is.reliable can.writes

-- a property of both is one of the chosen one
chosen : (b : Bool) (P : Node → Type 0) (n m : Node) → P n → P m → P (if b then n else m)
chosen true P n m first second = first
chosen false P n m first second = second

-- the files after a stop in the midst of a step
pub left_by_stop : (k : KeptView MemDiskView) (r : ReadyView) (b : Bool) (f : Files MemDiskView)
    → Survives view_of (header_of k.node.control) k.node.control.me (disks_in f) (if b then (outcome_of (node_of k) r).node else node_of k)
    → LeavesFiles view_of k.node.control.nodes (disks_in f)
    → IsLeft k.node.control (if b then (outcome_of (node_of k) r).node else node_of k) f
left_by_stop k r b f survives files =
    left_of k.node.control (if b then (outcome_of (node_of k) r).node else node_of k) f survives files
    (chosen b (λ (m : Node). header_of m.control ≡ header_of k.node.control) (outcome_of (node_of k) r).node (node_of k) refl refl)
    (chosen b (λ (m : Node). m.control.me ≡ k.node.control.me) (outcome_of (node_of k) r).node (node_of k) refl refl)

-- the kept part of a step that was prepared is that of the step
pub kept_as : (n : Node) (r : ReadyView) (i : Input) (calls image : ℕ) → outcome_of n r ≡ step n i → is_written r.write ≡ writes n i
    → (if is_written r.write && is_kept_new calls image then (outcome_of n r).node else n) ≡ (if keeps_write calls image n i then (step n i).node else n)
kept_as n r i calls image went frame =
    ap (λ (b : Bool). if b && is_kept_new calls image then (outcome_of n r).node else n) frame
    ∙ ap (λ (o : Outcome). if keeps_write calls image n i then o.node else n) went
