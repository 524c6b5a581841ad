-- The files that a stopped commit leaves.
use Rattle.std.proofs.Common.{◌≡◌, inl, inr, ℕ, Bool, true, false, ◌&&◌, if◌then◌else◌, List, [], ◌∷◌, ◌++◌, Option, Some, unwrap_or, refl, sym, ap, subst, ◌∙◌, arith}
use Rattle.oc_base.specs.declared.group.Group.{Group}
use Rattle.oc_base.specs.Stops.{is_kept_new}
use Rattle.oc_content.specs.ContentFile.{content_of, groups_after, groups_in, with_entry}
use Rattle.oc_content.specs.ContentView.{PieceView}
use Rattle.oc_journal.specs.JournalFile.{frames_of}
use Rattle.oc_model.specs.Lawful.{AreRecords}
use Rattle.oc_model.specs.Node.{Control, new_durable}
use Rattle.oc_model.specs.Records.{folded}
use Rattle.oc_node.specs.Planned.{PlanView}
use Rattle.oc_io.specs.MemDiskView.{MemDiskView, disk_of, view_of}
use Rattle.oc_record.specs.Spelling.{records_bytes}
use Rattle.oc_store.specs.ControlFiles.{at_side, records_of, recovered_frames}
use Rattle.oc_store.specs.declared.errors.Side.{Side}
use Rattle.oc_store.specs.declared.errors.Side.TheVariants.{First, Second}
use Rattle.oc_keep.specs.declared.ready.Write.TheVariants as writes
use Rattle.oc_keep.specs.Files.{Disks, SameDurable, Survives, disks, recovered}
use Rattle.oc_keep.specs.KeptView.{IsHonest, IsKept, KeptView, disks_of, header_of, node_of}
use Rattle.oc_keep.specs.ReadyView.{IsLeftAs, outcome_of}
use Rattle.oc_keep.proofs.Committing.{Reads, records_more}
use Rattle.oc_keep.proofs.Stays.{kept_survives}

-- a disk in memory is honest
pub mem_honest : (k : KeptView MemDiskView) → IsHonest view_of k
mem_honest k = record { control = refl; alternate = refl; content = refl }

module _ (reads : Reads) (k : KeptView MemDiskView) (is : IsKept view_of k) (was_open : k.closed ≡ false) where
  abbrev n : Control
  n = k.node.control

  -- nothing is written, so nothing is stopped
  pub stopped_nothing : (p : PlanView) (kept : Bool) (x y z : MemDiskView) → disks x y z ≡ disks_of k → Survives view_of (header_of n) n.me (disks x y z) (if false && kept then (outcome_of (node_of k) (record { plan = p; write = writes.Nothing })).node else node_of k)
  stopped_nothing p kept x y z same = subst (λ (d : Disks MemDiskView). Survives view_of (header_of n) n.me d (node_of k)) (sym same) (kept_survives view_of k is was_open (mem_honest k))

  -- the frame of the records is kept or not
  pub stopped_records : (p : PlanView) (frame : List ℕ) (kept : Bool) (x y z : MemDiskView) → AreRecords n.nodes p.records → frame ≡ records_bytes p.records
      → ((a b : List ℕ) → (view_of x).may_leave a → (view_of y).may_leave b → recovered_frames a b ≡ (if kept then k.store.current.frames ++ frame ∷ [] else k.store.current.frames)) → z ≡ k.content.journal.disk
      → Survives view_of (header_of n) n.me (disks x y z) (if true && kept then (outcome_of (node_of k) (record { plan = p; write = writes.Records frame })).node else node_of k)
  stopped_records p frame true x y z lawful spells control content = record {
    each = λ a b c left. record {
      kept =
          ap (λ (bodies : List (List ℕ)). folded (new_durable n.nodes) (records_of n.nodes bodies)) (control a b left.control left.alternate)
          ∙ records_more reads n p.records k.store.current.frames frame (omega (arith, is.reached.header.few)) lawful spells (is.folds was_open (mem_honest k));
      groups = ap groups_in (is.content_file was_open (mem_honest k) c (subst (λ (d : MemDiskView). (view_of d).may_leave c) content left.content));
    };
  }
  stopped_records p frame false x y z lawful spells control content = record {
    each = λ a b c left. record {
      kept = ap (λ (bodies : List (List ℕ)). folded (new_durable n.nodes) (records_of n.nodes bodies)) (control a b left.control left.alternate) ∙ sym (is.folds was_open (mem_honest k));
      groups = ap groups_in (is.content_file was_open (mem_honest k) c (subst (λ (d : MemDiskView). (view_of d).may_leave c) content left.content));
    };
  }

  -- the piece of content is kept or not
  pub stopped_piece : (p : PlanView) (piece : PieceView) (calls image : ℕ) (x y z : MemDiskView) → p.records ≡ [] → disks x y k.content.journal.disk ≡ disks_of k
      → content_of (frames_of z.bytes) ≡ Some (groups_after calls image (groups_in k.content.journal.frames) piece.entry) → z ≡ disk_of z.bytes
      → Survives view_of (header_of n) n.me (disks x y z) (if true && is_kept_new calls image then (outcome_of (node_of k) (record { plan = p; write = writes.Content piece })).node else node_of k)
  stopped_piece p piece calls image x y z none same content fresh = record {
    each = λ a b c left. by_kept (is_kept_new calls image) a b c
        (is.control_files was_open (mem_honest k) a b (subst (λ (d : Disks MemDiskView). (view_of d.control).may_leave a) same left.control) (subst (λ (d : Disks MemDiskView). (view_of d.alternate).may_leave b) same left.alternate))
        (ap (λ (file : List ℕ). groups_in (frames_of file)) (subst (λ (d : MemDiskView). (view_of d).may_leave c) fresh left.content) ∙ ap (λ (o : Option (List Group)). unwrap_or o []) content);
  }
    where
      by_kept : (kept : Bool) (a b c : List ℕ) → recovered_frames a b ≡ k.store.current.frames → groups_in (frames_of c) ≡ (if kept then with_entry piece.entry (groups_in k.content.journal.frames) else groups_in k.content.journal.frames)
          → SameDurable (if true && kept then (outcome_of (node_of k) (record { plan = p; write = writes.Content piece })).node else node_of k) (recovered (header_of n) n.me a b c)
      by_kept true a b c control groups = record {
        kept = ap (λ (bodies : List (List ℕ)). folded (new_durable n.nodes) (records_of n.nodes bodies)) control ∙ sym (is.folds was_open (mem_honest k)) ∙ ap (folded n.kept) (sym none);
        groups = groups;
      }
      by_kept false a b c control groups = record {
        kept = ap (λ (bodies : List (List ℕ)). folded (new_durable n.nodes) (records_of n.nodes bodies)) control ∙ sym (is.folds was_open (mem_honest k));
        groups = groups;
      }

-- the disks of a stopped store
pub stopped_disks : (side : Side) (c o x y : MemDiskView) → at_side side x y ≡ disk_of (at_side side x y).bytes → at_side side y x ≡ o → IsLeftAs (at_side side c o) x × IsLeftAs (at_side side o c) y
stopped_disks First c o x y current other = (inr current, inl other)
stopped_disks Second c o x y current other = (inl other, inr current)

-- the disk of a stopped store that is not written
pub other_stays : (side : Side) (c o x y : MemDiskView) → at_side side y x ≡ o → at_side side y x ≡ at_side side (at_side side o c) (at_side side c o)
other_stays First c o x y other = other
other_stays Second c o x y other = other
