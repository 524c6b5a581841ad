-- The node that three files recover, and the files that a crash leaves.
use Rattle.std.specs.Prelude.{◌≡◌, ◌⊎◌, ℕ, ◌≤◌, IsTrue, List}
use Rattle.oc_content.specs.ContentFile.{groups_in}
use Rattle.oc_journal.specs.JournalFile.{frames_of}
use Rattle.oc_model.specs.Node.{Header, Node, new_durable, started_with}
use Rattle.oc_model.specs.Records.{folded}
use Rattle.oc_io.specs.DiskView.{DiskView, GoesOn}
use Rattle.oc_io.specs.Faults.{Rose}
use Rattle.oc_store.specs.ControlFiles.{recovered as recovered_records}
use Rattle.oc_keep.specs.declared.files.Files.{Files}

-- the disks of a node's three files
pub record Disks (D : Type 0) : Type 0 where
  pub control : D
  pub alternate : D
  pub content : D

-- the disks of three files
abbrev pub disks_in : {D : Type 0} → Files D → Disks D
disks_in f = record { control = f.control; alternate = f.alternate; content = f.content }

abbrev pub disks : {D : Type 0} → D → D → D → Disks D
disks control alternate content = record { control = control; alternate = alternate; content = content }

-- the node that three files give back, as a start makes it: its control part is the fold of all records of the current control
-- file, and its groups are those of the content file
abbrev pub recovered : Header → ℕ → List ℕ → List ℕ → List ℕ → Node
recovered h me control alternate content = record {
  control = started_with h me (folded (new_durable h.nodes) (recovered_records h.nodes control alternate));
  groups = groups_in (frames_of content);
}

-- all durable parts agree; for a change log these are its length, its acknowledged count and the waiting certificates
pub record SameDurable (n m : Node) : Type 0 where
  pub kept : m.control.kept ≡ n.control.kept
  pub groups : m.groups ≡ n.groups

-- one of two nodes has the durable parts of a third
abbrev pub SameAsEither : Node → Node → Node → Type 0
SameAsEither before after n = SameDurable before n ⊎ SameDurable after n

-- Crashes

-- the disks keep the disk model
pub record AreHonest {D : Type 0} (view : D → DiskView) (d : Disks D) : Type 0 where
  pub control : IsTrue (view d.control).honest
  pub alternate : IsTrue (view d.alternate).honest
  pub content : IsTrue (view d.content).honest

-- no call on the disks fails that keeps within the size and the spare room
pub record AreReliable {D : Type 0} (view : D → DiskView) (d : Disks D) : Type 0 where
  pub control : IsTrue (view d.control).reliable
  pub alternate : IsTrue (view d.alternate).reliable
  pub content : IsTrue (view d.content).reliable

-- files that a crash now may leave
pub record MayLeave {D : Type 0} (view : D → DiskView) (d : Disks D) (a b c : List ℕ) : Type 0 where
  pub control : (view d.control).may_leave a
  pub alternate : (view d.alternate).may_leave b
  pub content : (view d.content).may_leave c

-- files that a crash at some moment since the old disks may have left, each at a moment of its own
pub record HadLeft {D : Type 0} (view : D → DiskView) (old new : Disks D) (a b c : List ℕ) : Type 0 where
  pub control : (view new.control).since (view old.control).moment a
  pub alternate : (view new.alternate).since (view old.alternate).moment b
  pub content : (view new.content).since (view old.content).moment c

-- the disks are no earlier
pub record AreLater {D : Type 0} (view : D → DiskView) (old new : Disks D) : Type 0 where
  pub control : (view old.control).moment ≤ (view new.control).moment
  pub alternate : (view old.alternate).moment ≤ (view new.alternate).moment
  pub content : (view old.content).moment ≤ (view new.content).moment

-- every crash now leaves files that recover a node with the property P
pub record Leaves {D : Type 0} (view : D → DiskView) (h : Header) (me : ℕ) (d : Disks D) (P : Node → Type 0) : Type 0 where
  pub each : (a b c : List ℕ) → MayLeave view d a b c → P (recovered h me a b c)

-- every crash at any moment from the old disks to the new ones leaves such files
pub record AlwaysLeaves {D : Type 0} (view : D → DiskView) (h : Header) (me : ℕ) (old new : Disks D) (P : Node → Type 0) : Type 0 where
  pub later : AreLater view old new
  pub each : (a b c : List ℕ) → HadLeft view old new a b c → P (recovered h me a b c)

-- the node survives a crash: every one leaves its durable parts
abbrev pub Survives : {D : Type 0} → (D → DiskView) → Header → ℕ → Disks D → Node → Type 0
Survives view h me d n = Leaves view h me d (SameDurable n)

-- the files that some crash of these disks leaves
pub record IsLeft {D : Type 0} (view : D → DiskView) (h : Header) (me : ℕ) (d : Disks D) (n : Node) : Type 0 where
  pub a : List ℕ
  pub b : List ℕ
  pub c : List ℕ
  pub left : MayLeave view d a b c
  pub is : n ≡ recovered h me a b c

-- the same disks at a later time
pub record AllGoOn {D : Type 0} (view : D → DiskView) (old new : Disks D) : Type 0 where
  pub control : GoesOn (view old.control) (view new.control)
  pub alternate : GoesOn (view old.alternate) (view new.alternate)
  pub content : GoesOn (view old.content) (view new.content)

-- the count of faults of one disk rose
abbrev pub OneRose : {D : Type 0} → (D → DiskView) → Disks D → Disks D → Type 0
OneRose view old new =
    Rose (view old.control).faults (view new.control).faults ⊎ Rose (view old.alternate).faults (view new.alternate).faults
    ⊎ Rose (view old.content).faults (view new.content).faults
