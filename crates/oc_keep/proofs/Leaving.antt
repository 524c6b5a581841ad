-- The files that a crash leaves: files of a node, as full as the node finds them.
use Rattle.std.proofs.Common.{◌≡◌, ℕ, Bool, true, false, if◌then◌else◌, IsSome, List, [], ◌∷◌, ◌++◌, Option, Some, None, option_map, refl, sym, ap, subst, ◌∙◌, arith}
use Rattle.oc_base.specs.declared.group.Group.{Group}
use Rattle.oc_base.specs.declared.shelf.Shelf.{Shelf}
use Rattle.oc_base.specs.Groups.{shelf}
use Rattle.oc_base.specs.Stops.{is_kept_new}
use Rattle.oc_content.specs.ContentFile.{IsShelved, content_of, groups_in}
use Rattle.oc_journal.specs.JournalFile.{IsJournalOf, IsNoJournal, end_of, frames_of}
use Rattle.oc_journal.specs.JournalView.{HoldsJournal, JournalView}
use Rattle.oc_journal.specs.Stopped.{frames_after}
use Rattle.oc_model.specs.declared.input.Input.{Input}
use Rattle.oc_model.specs.declared.record.Record.{Record}
use Rattle.oc_model.specs.Lawful.{AreRecords}
use Rattle.oc_model.specs.Step.{plan}
use Rattle.oc_io.specs.DiskView.{DiskView}
use Rattle.oc_io.specs.MemDiskView.{MemDiskView, disk_of, view_of}
use Rattle.oc_record.specs.Spelling.{records_bytes}
use Rattle.oc_store.specs.ControlFiles.{IsGood, at_side, first_bad, recovered_frames}
use Rattle.oc_store.specs.declared.errors.Side.{Side}
use Rattle.oc_store.specs.declared.errors.Side.TheVariants.{First, Second}
use Rattle.oc_store.specs.StoreView.{HoldsJournals}
use Rattle.oc_store.proofs.FrameReads.{good_more}
use Rattle.oc_keep.specs.Files.{Disks, disks}
use Rattle.oc_keep.specs.KeptView.{IsFullAt, IsFullByPlan, IsFullOn, IsHonest, IsKept, KeptView, disks_of, node_of}
use Rattle.oc_keep.specs.Promises.{IsContentFile, LeavesFiles}
use Rattle.oc_keep.proofs.Committing.{Goods}
use Rattle.oc_keep.proofs.Steps.{lines_are}
use Rattle.oc_keep.proofs.Stops.{mem_honest}

-- One file

-- a journal with good frames
good_journal : (nodes : ℕ) (bodies : List (List ℕ)) (file : List ℕ) → IsJournalOf bodies file → first_bad nodes bodies ≡ None → IsGood nodes file
good_journal nodes bodies file is good = (is.journal, ap (first_bad nodes) is.frames ∙ good)

-- frames that lines tell have a meaning
pub told : (bodies : List (List ℕ)) (lines : List Shelf) → IsShelved bodies lines → IsSome (content_of bodies)
told bodies lines shelved = by_content (content_of bodies) shelved where
  by_content : (found : Option (List Group)) → option_map shelf found ≡ Some lines → IsSome found
  by_content None h = absurd cc
  by_content (Some ks) h = refl

-- a journal whose frames the lines tell
content_journal : (bodies : List (List ℕ)) (lines : List Shelf) (file : List ℕ) → IsJournalOf bodies file → IsShelved bodies lines → IsContentFile file
content_journal bodies lines file is shelved = (is.journal, subst (λ (frames : List (List ℕ)). IsSome (content_of frames)) (sym is.frames) (told bodies lines shelved))

-- The control files

-- two journals with good frames
both_good : (nodes : ℕ) (side : Side) (current other : List (List ℕ)) (a b : List ℕ) → IsJournalOf current (at_side side a b) → IsJournalOf other (at_side side b a) → first_bad nodes current ≡ None → first_bad nodes other ≡ None → IsGood nodes a × IsGood nodes b
both_good nodes First current other a b x y good good_other = (good_journal nodes current a x good, good_journal nodes other b y good_other)
both_good nodes Second current other a b x y good good_other = (good_journal nodes other a y good_other, good_journal nodes current b x good)

-- images of the first and the second disk are images of the current and the other one
side_images : {D : Type 0} (view : D → DiskView) (side : Side) (x y : JournalView D) (a b : List ℕ) → HoldsJournal view x → HoldsJournal view y → (view (at_side side x.disk y.disk)).may_leave a → (view (at_side side y.disk x.disk)).may_leave b
    → IsJournalOf x.frames (at_side side a b) × IsJournalOf y.frames (at_side side b a)
side_images view First x y a b current other left left_b = (current.images a left, other.images b left_b)
side_images view Second x y a b current other left left_b = (current.images b left_b, other.images a left)

-- A node while no disk failed

module _ {D : Type 0} (view : D → DiskView) (k : KeptView D) (is : IsKept view k) (was_open : k.closed ≡ false) (honest : IsHonest view k) (store : HoldsJournals view k.store) where
  abbrev nodes : ℕ
  nodes = k.node.control.nodes

  control_images : (a b : List ℕ) → (view (disks_of k).control).may_leave a → (view (disks_of k).alternate).may_leave b → IsGood nodes a × IsGood nodes b
  control_images a b left left_b =
      let both = side_images view k.store.side k.store.current k.store.other a b store.current store.other left left_b in
      let good = is.good was_open honest in
      both_good nodes k.store.side k.store.current.frames k.store.other.frames a b both.0 both.1 good.current good.other

  pub kept_files : HoldsJournal view k.content.journal → LeavesFiles view nodes (disks_of k)
  kept_files content = λ a b c left.
      let controls = control_images a b left.control left.alternate in
      record {
        control = controls.0;
        alternate = controls.1;
        content = content_journal k.content.journal.frames k.content.shelves c (content.images c left.content) (is.shelved honest.content);
      }

  -- an input for which a file is full is one for which the file of each image is full
  pub kept_full : HoldsJournal view k.content.journal → (i : Input) → IsFullAt k i → IsFullOn view (disks_of k) (node_of k) i
  kept_full content i full = λ a b c left.
      let control_end : k.store.current.end ≡ end_of (recovered_frames a b) = store.current.end ∙ ap end_of (sym (is.control_files was_open honest a b left.control left.alternate)) in
      let content_end : k.content.journal.end ≡ end_of (frames_of c) = content.end ∙ ap end_of (sym (content.images c left.content).frames) in
      let lines : k.content.shelves ≡ shelf (groups_in k.content.journal.frames) = lines_are k.content.journal.frames k.content.shelves (is.shelved honest.content) in
      subst (λ (ls : List Shelf). IsFullByPlan (end_of (recovered_frames a b)) (end_of (frames_of c)) ls i (plan k.node.control ls i)) lines
      (subst (λ (n : ℕ). IsFullByPlan (end_of (recovered_frames a b)) n k.content.shelves i (plan k.node.control k.content.shelves i)) content_end
      (subst (λ (n : ℕ). IsFullByPlan n k.content.journal.end k.content.shelves i (plan k.node.control k.content.shelves i)) control_end full))

-- A commit that was stopped

-- a list of frames with one more or without it
after_good : (n : ℕ) (bodies : List (List ℕ)) (frame : List ℕ) (kept : Bool) → first_bad n bodies ≡ None → first_bad n (frame ∷ []) ≡ None → first_bad n (if kept then bodies ++ frame ∷ [] else bodies) ≡ None
after_good n bodies frame true good one = good_more n bodies frame good one
after_good n bodies frame false good one = good

module _ (k : KeptView MemDiskView) (is : IsKept view_of k) (was_open : k.closed ≡ false) where
  abbrev count : ℕ
  count = k.node.control.nodes

  -- no frame was to be written
  pub unwritten_files : (d : Disks MemDiskView) → d ≡ disks_of k → HoldsJournals view_of k.store → HoldsJournal view_of k.content.journal → LeavesFiles view_of count d
  unwritten_files d same store content = subst (LeavesFiles view_of count) (sym same) (kept_files view_of k is was_open (mem_honest k) store content)

  -- a frame of records was to be written
  pub records_files : Goods → (rs : List Record) (frame : List ℕ) (calls image : ℕ) (x y z : MemDiskView) → AreRecords count rs → frame ≡ records_bytes rs
      → ((a b : List ℕ) → (view_of x).may_leave a → (view_of y).may_leave b → IsJournalOf (frames_after calls image k.store.current.frames frame) (at_side k.store.side a b) × IsJournalOf k.store.other.frames (at_side k.store.side b a))
      → z ≡ k.content.journal.disk → HoldsJournal view_of k.content.journal → LeavesFiles view_of count (disks x y z)
  records_files goods rs frame calls image x y z lawful spells journals same content = λ a b c left.
      let both = journals a b left.control left.alternate in
      let good = is.good was_open (mem_honest k) in
      let one = ap (λ (body : List ℕ). first_bad count (body ∷ [])) spells ∙ goods count rs (omega (arith, is.reached.header.few)) lawful in
      let controls = both_good count k.store.side (frames_after calls image k.store.current.frames frame) k.store.other.frames a b both.0 both.1 (after_good count k.store.current.frames frame (is_kept_new calls image) good.current one) good.other in
      let there = subst (λ (d : MemDiskView). (view_of d).may_leave c) same left.content in
      record {
        control = controls.0;
        alternate = controls.1;
        content = content_journal k.content.journal.frames k.content.shelves c (content.images c there) (is.shelved refl);
      }

  -- a piece of content was to be written
  pub piece_files : (x y z : MemDiskView) (ks : List Group) → disks x y k.content.journal.disk ≡ disks_of k → HoldsJournals view_of k.store
      → content_of (frames_of z.bytes) ≡ Some ks → ¬ IsNoJournal z.bytes → z ≡ disk_of z.bytes → LeavesFiles view_of count (disks x y z)
  piece_files x y z ks same store says journal fresh = λ a b c left.
      let controls = control_images view_of k is was_open (mem_honest k) store a b
      (subst (λ (d : Disks MemDiskView). (view_of d.control).may_leave a) same left.control) (subst (λ (d : Disks MemDiskView). (view_of d.alternate).may_leave b) same left.alternate) in
      let here : c ≡ z.bytes = subst (λ (d : MemDiskView). (view_of d).may_leave c) fresh left.content in
      record {
        control = controls.0;
        alternate = controls.1;
        content = subst IsContentFile (sym here) (journal, subst (λ (found : Option (List Group)). IsSome found) (sym says) refl);
      }
