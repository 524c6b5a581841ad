-- An input made ready, as contracts see it.
use Rattle.std.specs.Prelude.{◌≡◌, ◌⊎◌, ℕ, ◌<◌, Bool, true, false, List, [], ◌∷◌, ◌++◌, length}
use Rattle.oc_base.specs.declared.group.Group.{Group}
use Rattle.oc_content.specs.ContentFile.{with_entry}
use Rattle.oc_journal.specs.Stopped.{CanStop}
use Rattle.oc_model.specs.Node.{Node, Outcome}
use Rattle.oc_node.specs.Applying.{CanApply}
use Rattle.oc_node.specs.OutcomeView.{OutcomeView}
use Rattle.oc_node.specs.Planned.{PlanView, control_after}
use Rattle.oc_io.specs.DiskView.{DiskView}
use Rattle.oc_io.specs.MemDiskView.{MemDiskView, disk_of}
use Rattle.oc_record.specs.Spelling.{records_bytes}
use Rattle.oc_store.specs.ControlFiles.{at_side, begun_generation}
use Rattle.oc_store.specs.declared.errors.Side.{Side}
use Rattle.oc_keep.specs.declared.ready.Write.{Write}
use Rattle.oc_keep.specs.declared.ready.Write.TheVariants as writes
use Rattle.oc_keep.specs.Files.{Disks}
use Rattle.oc_keep.specs.KeptView.{KeptView}
use Rattle.oc_keep.specs.Writing.{CanPutPiece, IsRoomFor, IsTooLong}

-- the plan of the step, and the step's write
pub record ReadyView : Type 0 where
  pub plan : PlanView
  pub write : Write

-- whether a frame is written
abbrev pub is_written : Write → Bool
is_written writes.Nothing = false
is_written (writes.Records frame) = true
is_written (writes.Content piece) = true

-- the groups after the write
abbrev pub groups_with : Write → List Group → List Group
groups_with (writes.Content piece) ks = with_entry piece.entry ks
groups_with write ks = ks

-- the frame that is written to the current control file, if any
abbrev pub control_frames : Write → List (List ℕ)
control_frames (writes.Records frame) = frame ∷ []
control_frames write = []

-- the frame that is written to the content file, if any
abbrev pub content_frames : Write → List (List ℕ)
content_frames (writes.Content piece) = piece.body ∷ []
content_frames write = []

-- the files have the written frame once, at the end, and no other frame more
pub record GrowsBy {D : Type 0} (write : Write) (old new : KeptView D) : Type 0 where
  pub control : new.store.current.frames ≡ old.store.current.frames ++ control_frames write
  pub content : new.content.journal.frames ≡ old.content.journal.frames ++ content_frames write

-- the effect of a prepared input on a node
abbrev pub outcome_of : Node → ReadyView → Outcome
outcome_of n r = record {
  node = record { control = control_after n.control r.plan; groups = groups_with r.write n.groups };
  records = r.plan.records;
  sends = r.plan.sends;
  answer = r.plan.answer;
}

-- an outcome without the node and the records
abbrev pub told_of : Outcome → OutcomeView
told_of o = record { answer = o.answer; sends = o.sends }

-- the write is the frame of the plan's records, or a piece of content, and has its room
abbrev pub CanWrite : {D : Type 0} → (D → DiskView) → KeptView D → PlanView → Write → Type 0
CanWrite view k p writes.Nothing = p.records ≡ []
CanWrite view k p (writes.Records frame) =
    (frame ≡ records_bytes p.records) × (0 < k.store.current.spare) × IsRoomFor view k.store.current (length frame)
CanWrite view k p (writes.Content piece) =
    (p.records ≡ []) × CanPutPiece view k.content piece

-- this node on its files made the input ready since their last change; its records do not begin with a snapshot
pub record CanCommit {D : Type 0} (view : D → DiskView) (k : KeptView D) (r : ReadyView) : Type 0 where
  pub applies : CanApply k.node r.plan
  pub plain : begun_generation r.plan.records ≡ 0
  pub writes : CanWrite view k r.plan r.write

-- the file would pass its limit with this write
abbrev pub IsFullToWrite : {D : Type 0} → KeptView D → Write → Type 0
IsFullToWrite k w = IsTooLong k.store k.content w

-- the write can be stopped partway
abbrev pub CanStopWrite : KeptView MemDiskView → Write → Type 0
CanStopWrite k writes.Nothing = Unit {0}
CanStopWrite k (writes.Records frame) = CanStop (length frame) k.store.current
CanStopWrite k (writes.Content piece) = CanStop (length piece.body) k.content.journal

-- a stopped disk is left new, and any other disk as it was
abbrev pub IsLeftAs : MemDiskView → MemDiskView → Type 0
IsLeftAs old new = (new ≡ old) ⊎ (new ≡ disk_of new.bytes)

pub record AreLeftAs (old new : Disks MemDiskView) : Type 0 where
  pub control : IsLeftAs old.control new.control
  pub alternate : IsLeftAs old.alternate new.alternate
  pub content : IsLeftAs old.content new.content

-- the disks of the unwritten files are as they were, where the current control file is on this side
abbrev pub OthersStay : Write → Side → Disks MemDiskView → Disks MemDiskView → Type 0
OthersStay writes.Nothing side old new = new ≡ old
OthersStay (writes.Records frame) side old new =
    (at_side side new.alternate new.control ≡ at_side side old.alternate old.control) × (new.content ≡ old.content)
OthersStay (writes.Content piece) side old new = (new.control ≡ old.control) × (new.alternate ≡ old.alternate)
