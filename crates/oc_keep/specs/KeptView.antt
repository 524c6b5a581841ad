-- A node on its files, as contracts see it.
use Rattle.std.specs.Prelude.{◌≡◌, ℕ, ◌+◌, ◌-◌, ◌^◌, ◌<◌, ◌≤◌, Bool, false, IsTrue, List, [], ◌∷◌, length, Option, Some, None}
use Rattle.oc_base.specs.declared.limits.TheConstants.{DUE_BYTES, MAX_BASE_ACKED, MAX_FRAME_RECORDS, MAX_JOURNAL_BYTES, MAX_LOG_LENGTH}
use Rattle.oc_base.specs.declared.shelf.Shelf.{Shelf}
use Rattle.oc_base.specs.Groups.{shelf}
use Rattle.oc_content.specs.ContentFile.{IsShelved, groups_in}
use Rattle.oc_content.specs.ContentView.{ContentView}
use Rattle.oc_content.specs.Entries.{written}
use Rattle.oc_journal.specs.JournalFile.{end_of, frames_of}
use Rattle.oc_journal.specs.JournalView.{HasFrames}
use Rattle.oc_model.specs.declared.input.Input.{Input}
use Rattle.oc_model.specs.declared.record.Record.{Record}
use Rattle.oc_model.specs.Node.{Control, Header, Node, new_durable}
use Rattle.oc_model.specs.Plan.{Plan}
use Rattle.oc_model.specs.Records.{folded}
use Rattle.oc_model.specs.Snapshot.{snapshot}
use Rattle.oc_model.specs.Step.{piece_of, plan}
use Rattle.oc_node.specs.Areas.{with_areas}
use Rattle.oc_node.specs.NodeView.{IsReached, NodeView}
use Rattle.oc_io.specs.DiskView.{DiskView}
use Rattle.oc_record.specs.Spelling.{records_bytes}
use Rattle.oc_store.specs.ControlFiles.{records_of, recovered_frames}
use Rattle.oc_store.specs.StoreView.{StoreView, first_disk, second_disk, AreGood, Recovers}
use Rattle.oc_keep.specs.Files.{Disks, AreHonest, AlwaysLeaves, MayLeave, Survives}
use Rattle.oc_keep.specs.Puts.{entry_for}

-- the node, its control files, its content file, and whether a disk failed
pub record KeptView (D : Type 0) : Type 0 where
  pub node : NodeView
  pub store : StoreView D
  pub content : ContentView D
  pub closed : Bool

-- a network of `nodes` nodes, with a chain of this length, chunks of at most this number of bytes, and these areas
abbrev pub header : ℕ → ℕ → ℕ → List ℕ → Header
header nodes chain chunk areas = record { nodes = nodes; chain = chain; chunk = chunk; areas = areas }

-- one of these parts
abbrev pub kept_of : {D : Type 0} → NodeView → StoreView D → ContentView D → Bool → KeptView D
kept_of node store content closed = record { node = node; store = store; content = content; closed = closed }

-- the node that goes by these areas from now on
abbrev pub going_by : {D : Type 0} → List ℕ → KeptView D → KeptView D
going_by areas k = record k { node = record k.node { control = with_areas areas k.node.control } }

-- the network that a node belongs to
abbrev pub header_of : Control → Header
header_of n = record { nodes = n.nodes; chain = n.chain; chunk = n.chunk; areas = n.areas }

-- the same network, whatever its areas
abbrev pub sizes_of : Control → Header
sizes_of n = record { nodes = n.nodes; chain = n.chain; chunk = n.chunk; areas = [] }

-- the disks of the node's files
abbrev pub disks_of : {D : Type 0} → KeptView D → Disks D
disks_of k = record { control = first_disk k.store; alternate = second_disk k.store; content = k.content.journal.disk }

-- the node of the model: its groups are those of its content file
abbrev pub node_of : {D : Type 0} → KeptView D → Node
node_of k = record { control = k.node.control; groups = groups_in k.content.journal.frames }

-- the disks keep the disk model
abbrev pub IsHonest : {D : Type 0} → (D → DiskView) → KeptView D → Type 0
IsHonest view k = AreHonest view (disks_of k)

-- every crash now leaves the durable parts of this node
abbrev pub NodeSurvives : {D : Type 0} → (D → DiskView) → KeptView D → Node → Type 0
NodeSurvives view k n = Survives view (header_of k.node.control) k.node.control.me (disks_of k) n

-- a crash at any moment since the old disks leaves a node with the property P
abbrev pub AtAnyMoment : {D : Type 0} → (D → DiskView) → KeptView D → KeptView D → (Node → Type 0) → Type 0
AtAnyMoment view old new P = AlwaysLeaves view (header_of old.node.control) old.node.control.me (disks_of old) (disks_of new) P

-- The invariant while no disk failed: the durable state is the fold of the current control file, all frames of both control
-- files are lists of records, and every crash of honest disks leaves the contents of the disks. The change log is within its
-- limit, since each certificate that was noted after a base has its own record in the file.
pub record IsKept {D : Type 0} (view : D → DiskView) (k : KeptView D) : Type 0 where
  pub reached : IsReached k.node.control
  pub open_store : k.closed ≡ false → k.store.closed ≡ false
  pub open_content : k.closed ≡ false → k.content.journal.closed ≡ false
  pub folds : k.closed ≡ false → IsHonest view k
      → k.node.control.kept ≡ folded (new_durable k.node.control.nodes) (records_of k.node.control.nodes k.store.current.frames)
  pub control_files : k.closed ≡ false → IsHonest view k → Recovers view k.store k.store.current.frames
  pub good : k.closed ≡ false → IsHonest view k → AreGood k.node.control.nodes k.store
  pub content_file : k.closed ≡ false → IsHonest view k → HasFrames (view k.content.journal.disk) k.content.journal.frames
  pub shelved : IsTrue (view k.content.journal.disk).honest → IsShelved k.content.journal.frames k.content.shelves
  pub log : k.closed ≡ false → k.node.control.kept.log.length ≤ MAX_BASE_ACKED + k.store.current.end
  pub short : k.node.control.kept.log.length ≤ MAX_LOG_LENGTH

-- Full files

-- The frames of the current control file and of the content file end at these offsets. With the frame of these records, or else
-- of this piece, the file would pass its limit.
abbrev pub IsFullWith : ℕ → ℕ → List Shelf → Input → List Record → Option ℕ → Bool → Type 0
IsFullWith control content lines i (r ∷ rs) keeps closes = MAX_JOURNAL_BYTES < control + 6 + length (records_bytes (r ∷ rs))
IsFullWith control content lines i [] (Some at) closes = MAX_JOURNAL_BYTES < content + 6 + length (written (entry_for lines (piece_of i) at closes))
IsFullWith control content lines i [] None closes = ⊥

-- the file would pass its limit with the write of this plan
abbrev pub IsFullByPlan : ℕ → ℕ → List Shelf → Input → Plan → Type 0
IsFullByPlan control content lines i o = IsFullWith control content lines i o.records o.keeps o.seals

-- the file would pass its limit with the write of this input
abbrev pub IsFullAt : {D : Type 0} → KeptView D → Input → Type 0
IsFullAt k i = IsFullByPlan k.store.current.end k.content.journal.end k.content.shelves i (plan k.node.control k.content.shelves i)

-- the same for three files and the node that they keep
abbrev pub IsFullIn : List ℕ → List ℕ → List ℕ → Node → Input → Type 0
IsFullIn control alternate content n i =
    IsFullByPlan (end_of (recovered_frames control alternate)) (end_of (frames_of content)) (shelf n.groups) i (plan n.control (shelf n.groups) i)

-- the same for the files that any crash now leaves
abbrev pub IsFullOn : {D : Type 0} → (D → DiskView) → Disks D → Node → Input → Type 0
IsFullOn view d n i = (a b c : List ℕ) → MayLeave view d a b c → IsFullIn a b c n i

-- Turning the control files over

-- the control files can be turned over: the current one is long, the snapshot fits in a frame, and its log in a base
pub record IsRipe {D : Type 0} (k : KeptView D) : Type 0 where
  pub long : DUE_BYTES < k.store.current.end
  pub next : k.store.generation < 2 ^ 64 - 1
  pub few : length (snapshot (k.store.generation + 1) k.node.control.kept) ≤ MAX_FRAME_RECORDS
  pub based : k.node.control.kept.log.length ≤ MAX_BASE_ACKED
