-- The node recovered from the files of a node that stopped.
use Rattle.std.proofs.Common.{◌≡◌, ℕ, List, refl, sym, ap, subst, ◌∙◌}
use Rattle.oc_base.specs.declared.group.Group.{Group}
use Rattle.oc_content.specs.ContentFile.{groups_in}
use Rattle.oc_journal.specs.JournalFile.{frames_of}
use Rattle.oc_keep.specs.Files.{Disks, MayLeave, SameDurable, Survives, recovered, disks_in}
use Rattle.oc_keep.specs.KeptView.{KeptView, NodeSurvives, disks_of, header_of, node_of}
use Rattle.oc_keep.specs.Promises.{AreFiles, LeavesFiles}
use Rattle.oc_model.specs.Node.{Control, Durable, Header, Node, restarted, started_with}
use Rattle.oc_io.specs.DiskPast.{MayLeave as LeavesBytes}
use Rattle.oc_io.specs.MemDiskView.{MemDiskView, disk_of, may_leave_seen, view_of}
use Rattle.oc_keep.specs.declared.files.Files.{Files}
use Rattle.oc_world.specs.ProcessState.{IsLeft, IsStopped, left_in}

-- the result of a read is one of the images
seen_images : (d : Disks MemDiskView) → MayLeave view_of d d.control.bytes d.alternate.bytes d.content.bytes
seen_images d = record {
  control = may_leave_seen d.control.bytes d.control.past;
  alternate = may_leave_seen d.alternate.bytes d.alternate.past;
  content = may_leave_seen d.content.bytes d.content.past;
}

-- the groups of every content file that a crash may leave are those of the node that survives
pub groups_left : (h : Header) (x : ℕ) (d : Disks MemDiskView) (n : Node) (c : List ℕ) → Survives view_of h x d n → (view_of d.content).may_leave c → groups_in (frames_of c) ≡ n.groups
groups_left h x d n c survives left =
    let seen = seen_images d in
    (survives.each d.control.bytes d.alternate.bytes c (record { control = seen.control; alternate = seen.alternate; content = left })).groups

-- files from which the durable part of a node is recovered give the node after a new start
started_anew : (h : Header) (x : ℕ) (d : Durable) (ks : List Group) (n : Node) → d ≡ n.control.kept → ks ≡ n.groups → h ≡ header_of n.control → x ≡ n.control.me
    → record { control = started_with h x d; groups = ks } ≡ restarted n
started_anew h x d ks n kept groups header me = λ i. record { control = started_with (header i) (me i) (kept i); groups = groups i }

-- the files of a node every crash of which leaves the durable part of n
pub left_of : (c : Control) (n : Node) (f : Files MemDiskView) → Survives view_of (header_of c) c.me (disks_in f) n → LeavesFiles view_of c.nodes (disks_in f) → header_of n.control ≡ header_of c → n.control.me ≡ c.me → IsLeft c n f
left_of c n f survives files header me =
    let here : SameDurable n (left_in (header_of c) c.me f) = survives.each f.control.bytes f.alternate.bytes f.content.bytes (seen_images (disks_in f)) in
    record {
      stopped = record {
        survives = record {
          each = λ x y z left. let there : SameDurable n (recovered (header_of c) c.me x y z) = survives.each x y z left in record { kept = there.kept ∙ sym here.kept; groups = there.groups ∙ sym here.groups };
        };
        files = files;
      };
      node = started_anew (header_of c) c.me (left_in (header_of c) c.me f).control.kept (left_in (header_of c) c.me f).groups n here.kept here.groups (sym header) (sym me);
    }

-- the result of a read of files is the files of a node
pub seen_files : (h : Header) (x : ℕ) (f : Files MemDiskView) → IsStopped h x f → AreFiles h.nodes f.control.bytes f.alternate.bytes f.content.bytes
seen_files h x f is = is.files f.control.bytes f.alternate.bytes f.content.bytes (seen_images (disks_in f))

-- a disk that crashed
pub record IsCrashed (old new : MemDiskView) : Type 0 where
  pub fresh : new ≡ disk_of new.bytes
  pub image : LeavesBytes old.bytes old.past new.bytes

-- a disk that is new with some bytes is new with its own
pub fresh_of : (new : MemDiskView) (bytes : List ℕ) → new ≡ disk_of bytes → new ≡ disk_of new.bytes
fresh_of new bytes is = is ∙ ap disk_of (sym (ap (λ (d : MemDiskView). d.bytes) is))

-- an image of a disk that crashed is one of the disk before
crashed_image : (old new : MemDiskView) (a : List ℕ) → IsCrashed old new → (view_of new).may_leave a → (view_of old).may_leave a
crashed_image old new a is left =
    let same : a ≡ new.bytes = subst (λ (d : MemDiskView). (view_of d).may_leave a) is.fresh left in
    subst (LeavesBytes old.bytes old.past) (sym same) is.image

crashed_images : (d : Disks MemDiskView) (f : Files MemDiskView) (a b c : List ℕ) → IsCrashed d.control f.control → IsCrashed d.alternate f.alternate → IsCrashed d.content f.content → MayLeave view_of (disks_in f) a b c → MayLeave view_of d a b c
crashed_images d f a b c x y z left = record {
  control = crashed_image d.control f.control a x left.control;
  alternate = crashed_image d.alternate f.alternate b y left.alternate;
  content = crashed_image d.content f.content c z left.content;
}

-- the files after a crash of a node that runs
pub left_by_crash : (k : KeptView MemDiskView) (d : Disks MemDiskView) (f : Files MemDiskView) → d ≡ disks_of k → NodeSurvives view_of k (node_of k) → LeavesFiles view_of k.node.control.nodes (disks_of k)
    → IsCrashed d.control f.control → IsCrashed d.alternate f.alternate → IsCrashed d.content f.content → IsLeft k.node.control (node_of k) f
left_by_crash k d f same survives files x y z =
    left_of k.node.control (node_of k) f
    (record { each = λ a b c left. survives.each a b c (before a b c left) }) (λ a b c left. files a b c (before a b c left))
    refl refl
  where
    before : (a b c : List ℕ) → MayLeave view_of (disks_in f) a b c → MayLeave view_of (disks_of k) a b c
    before a b c left = subst (λ (e : Disks MemDiskView). MayLeave view_of e a b c) same (crashed_images d f a b c x y z left)
