-- A node that was loaded from copies of its files.
use Rattle.std.proofs.Common.{◌≡◌, ℕ, sym, subst}
use Rattle.oc_keep.specs.Files.{AreHonest, AreReliable, Disks, Survives, disks, disks_in}
use Rattle.oc_keep.proofs.Stays.{all_honest}
use Rattle.oc_io.specs.DiskView.{DiskView}
use Rattle.oc_keep.specs.KeptView.{KeptView, disks_of, header_of, node_of}
use Rattle.oc_keep.specs.Promises.{HoldFiles, IsNodeOf, LoadsSafely}
use Rattle.oc_model.specs.Node.{Header}
use Rattle.oc_io.specs.MemDiskView.{MemDiskView, disk_of, view_of}
use Rattle.oc_keep.specs.declared.files.Files.{Files}
use Rattle.oc_world.specs.ProcessState.{IsRunning, IsStopped}
use Rattle.oc_world.proofs.Left.{seen_files}
use Rattle.oc_world.proofs.Open.{reliable_on}

-- copies of files
pub record AreCopies (f g : Files MemDiskView) : Type 0 where
  pub control : g.control ≡ disk_of f.control.bytes
  pub alternate : g.alternate ≡ disk_of f.alternate.bytes
  pub content : g.content ≡ disk_of f.content.bytes

-- the disks of the copies
abbrev fresh_disks : Files MemDiskView → Disks MemDiskView
fresh_disks f = disks (disk_of f.control.bytes) (disk_of f.alternate.bytes) (disk_of f.content.bytes)

copied : (f g : Files MemDiskView) → AreCopies f g → disks_in g ≡ fresh_disks f
copied f g same = λ i. disks (same.control i) (same.alternate i) (same.content i)

-- the copies hold the files of a node
pub copies_hold : (h : Header) (x : ℕ) (f g : Files MemDiskView) → AreCopies f g → IsStopped h x f → HoldFiles view_of h.nodes (disks_in g)
copies_hold h x f g same is = subst (HoldFiles view_of h.nodes) (sym (copied f g same)) (seen_files h x f is)

-- a node that was loaded from files on disks that do not fail runs
pub loaded_runs : {D : Type 0} (view : D → DiskView) (h : Header) (x : ℕ) (d : Disks D) (k : KeptView D) → AreHonest view d → AreReliable view d → IsNodeOf view h x d k → LoadsSafely view h x d (disks_of k) → IsRunning view h x k
loaded_runs view h x d k honest reliable is safely = record {
  header = is.header;
  me = is.id;
  is_open = record {
    unclosed = is.unclosed;
    honest = all_honest view d (disks_of k) safely.goes_on honest;
    reliable = reliable_on view d (disks_of k) safely.goes_on reliable;
    survives = subst (λ (y : ℕ). Survives view (header_of k.node.control) y (disks_of k) (node_of k)) (sym is.id)
        (subst (λ (j : Header). Survives view j x (disks_of k) (node_of k)) (sym is.header) (is.survives honest));
  };
}
