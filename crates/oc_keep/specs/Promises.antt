-- The promises of the calls of a node on its files.
use Rattle.std.specs.Prelude.{◌≡◌, ℕ, ◌+◌, true, false, IsSome, List, [], ◌∷◌}
use Rattle.oc_content.specs.ContentFile.{content_of}
use Rattle.oc_content.specs.Promises.{PutsNothing, RefusesContent}
use Rattle.oc_journal.specs.JournalFile.{frames_of, IsNoJournal}
use Rattle.oc_model.specs.Node.{Control, Header}
use Rattle.oc_model.specs.Snapshot.{snapshot}
use Rattle.oc_record.specs.Spelling.{records_bytes}
use Rattle.oc_store.specs.Sides.{opposite}
use Rattle.oc_io.specs.DiskView.{DiskView}
use Rattle.oc_store.specs.ControlFiles.{IsGood}
use Rattle.oc_store.specs.Promises.{HasGood, RefusesFiles}
use Rattle.oc_keep.specs.declared.errors.KeepLoad.{KeepLoad}
use Rattle.oc_keep.specs.declared.errors.KeepLoad.TheVariants as loads
use Rattle.oc_keep.specs.Files.{Disks, AreHonest, AllGoOn, AlwaysLeaves, IsLeft, MayLeave, OneRose, Survives, recovered}
use Rattle.oc_keep.specs.KeptView.{KeptView, disks_of, header_of, node_of, sizes_of}
use Rattle.oc_keep.specs.Writing.{KeepsStore}

-- Loading

-- a content file whose frames are all good
abbrev pub IsContentFile : List ℕ → Type 0
IsContentFile file = (¬ IsNoJournal file) × IsSome (content_of (frames_of file))

-- the files of a node: each frame belongs in its file
pub record AreFiles (nodes : ℕ) (a b c : List ℕ) : Type 0 where
  pub control : IsGood nodes a
  pub alternate : IsGood nodes b
  pub content : IsContentFile c

-- the bytes that a read of each of three disks may give are files of a node
abbrev pub HoldFiles : {D : Type 0} → (D → DiskView) → ℕ → Disks D → Type 0
HoldFiles view nodes d = AreFiles nodes (view d.control).seen (view d.alternate).seen (view d.content).seen

-- every crash now leaves the files of a node
abbrev pub LeavesFiles : {D : Type 0} → (D → DiskView) → ℕ → Disks D → Type 0
LeavesFiles view nodes d = (a b c : List ℕ) → MayLeave view d a b c → AreFiles nodes a b c

-- the node that the disks give back, after a start, and which every crash now leaves
pub record IsNodeOf {D : Type 0} (view : D → DiskView) (h : Header) (me : ℕ) (d : Disks D) (k : KeptView D) : Type 0 where
  pub header : header_of k.node.control ≡ h
  pub id : k.node.control.me ≡ me
  pub node : AreHonest view d → node_of k ≡ recovered h me (view d.control).seen (view d.alternate).seen (view d.content).seen
  pub survives : AreHonest view d → Survives view h me (disks_of k) (node_of k)
  pub files : AreHonest view d → HoldFiles view h.nodes d
  pub unclosed : k.closed ≡ false

-- a load: a crash at any moment leaves what some crash at the start would have left
pub record LoadsSafely {D : Type 0} (view : D → DiskView) (h : Header) (me : ℕ) (old new : Disks D) : Type 0 where
  pub goes_on : AllGoOn view old new
  pub any_moment : AreHonest view old → AlwaysLeaves view h me old new (IsLeft view h me old)

-- the cause for which a node was not loaded; the cause of one file is given only where the files before are good
abbrev pub RefusesNode : {D : Type 0} → (D → DiskView) → ℕ → Disks D → Disks D → KeepLoad → Type 0
RefusesNode view nodes d e (loads.Store error) = RefusesFiles nodes (view d.control) (view d.alternate) (view e.control) (view e.alternate) error
RefusesNode view nodes d e (loads.Content cause) = HasGood nodes (view d.control) × HasGood nodes (view d.alternate) × RefusesContent (view d.content) (view e.content) cause
RefusesNode view nodes d e loads.Memory = Unit {0}

-- Changes

-- the node keeps its id and its network
pub record IsSameNode (old new : Control) : Type 0 where
  pub me : new.me ≡ old.me
  pub header : header_of new ≡ header_of old

-- the node keeps its id and its network, whatever its areas
pub record IsSameSeat (old new : Control) : Type 0 where
  pub me : new.me ≡ old.me
  pub header : sizes_of new ≡ sizes_of old

-- a call that wrote nothing: the node and the contents of its disks are as they were, and all room is still there
pub record ChangesNothing {D : Type 0} (view : D → DiskView) (old new : KeptView D) : Type 0 where
  pub control : new.node.control ≡ old.node.control
  pub store : KeepsStore view old.store new.store
  pub content : PutsNothing view old.content new.content

-- a call in which a disk failed, which closes the node
pub record Closes {D : Type 0} (view : D → DiskView) (old new : KeptView D) : Type 0 where
  pub rose : OneRose view (disks_of old) (disks_of new)
  pub closes : new.closed ≡ true

-- Turning the control files over

-- the other control file has one frame, a snapshot of the node under the next generation, and is the current one now
pub record IsTurnedOver {D : Type 0} (view : D → DiskView) (old new : KeptView D) : Type 0 where
  pub side : new.store.side ≡ opposite old.store.side
  pub generation : new.store.generation ≡ old.store.generation + 1
  pub frames : AreHonest view (disks_of old)
      → new.store.current.frames ≡ records_bytes (snapshot (old.store.generation + 1) old.node.control.kept) ∷ []
