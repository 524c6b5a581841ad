-- A node that runs on its files, or the files of a node that is down.
use Rattle.std.specs.Prelude.{◌≡◌, ℕ, Bool, true, false, Some}
use Rattle.oc_keep.specs.Files.{AreReliable, Survives, disks_in, recovered}
use Rattle.oc_keep.specs.KeptView.{IsHonest, KeptView, NodeSurvives, disks_of, header_of, node_of}
use Rattle.oc_keep.specs.Promises.{LeavesFiles}
use Rattle.oc_model.specs.Node.{Control, Header, Node, restarted}
use Rattle.oc_model.specs.World.{down}
use Rattle.oc_io.specs.DiskView.{DiskView}
use Rattle.oc_io.specs.MemDiskView.{MemDiskView, view_of}
use Rattle.oc_keep.specs.declared.files.Files.{Files}
use Rattle.oc_world.specs.declared.process_state.ProcessState.{ProcessState}
use Rattle.oc_world.specs.declared.process_state.ProcessState.TheVariants.{Running, Stopped}
use Rattle.oc_world.specs.ProcessView.{ProcessView, resting}

-- the node that files in memory recover
abbrev pub left_in : Header → ℕ → Files MemDiskView → Node
left_in h x f = recovered h x f.control.bytes f.alternate.bytes f.content.bytes

abbrev pub is_running : {D : Type 0} → ProcessState D → Bool
is_running (Running k) = true
is_running (Stopped f) = false

-- the process of x: a node that runs is up; a node that is down is the one that its files recover
abbrev pub process_of : Header → ℕ → ProcessState MemDiskView → ProcessView
process_of h x (Running k) = record { process = record { node = node_of k; up = true }; kept = Some k }
process_of h x (Stopped f) = resting (down (left_in h x f))

-- a node runs on disks that do not fail, and every crash now leaves its durable part
pub record IsOpen {D : Type 0} (view : D → DiskView) (k : KeptView D) : Type 0 where
  pub unclosed : k.closed ≡ false
  pub honest : IsHonest view k
  pub reliable : AreReliable view (disks_of k)
  pub survives : NodeSurvives view k (node_of k)

-- node x runs, among the nodes of this header
pub record IsRunning {D : Type 0} (view : D → DiskView) (h : Header) (x : ℕ) (k : KeptView D) : Type 0 where
  pub header : header_of k.node.control ≡ h
  pub me : k.node.control.me ≡ x
  pub is_open : IsOpen view k

-- every crash of the files now leaves the durable part of x, in files of a node
pub record IsStopped (h : Header) (x : ℕ) (f : Files MemDiskView) : Type 0 where
  pub survives : Survives view_of h x (disks_in f) (left_in h x f)
  pub files : LeavesFiles view_of h.nodes (disks_in f)

-- the files are those of a node with this control state, and recover the durable part of n
pub record IsLeft (c : Control) (n : Node) (f : Files MemDiskView) : Type 0 where
  pub stopped : IsStopped (header_of c) c.me f
  pub node : left_in (header_of c) c.me f ≡ restarted n

abbrev pub IsStateOf : Header → ℕ → ProcessState MemDiskView → Type 0
IsStateOf h x (Running k) = IsRunning view_of h x k
IsStateOf h x (Stopped f) = IsStopped h x f
