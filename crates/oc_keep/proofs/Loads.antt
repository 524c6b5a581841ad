-- The effect of a load.
use Rattle.std.proofs.Common.{◌≡◌, ℕ, ◌+◌, ◌≤◌, false, IsSome, IsTrue, List, refl, sym, ap, subst, ◌∙◌}
use Rattle.oc_base.specs.declared.limits.TheConstants.{MAX_BASE_ACKED, MAX_LOG_LENGTH}
use Rattle.oc_content.specs.ContentFile.{content_of, groups_in}
use Rattle.oc_content.specs.ContentView.{ContentView}
use Rattle.oc_content.specs.Promises.{IsContentOf}
use Rattle.oc_journal.specs.JournalFile.{frames_of}
use Rattle.oc_journal.specs.JournalView.{IsLikeAnImage}
use Rattle.oc_journal.specs.Promises as journals
use Rattle.oc_model.specs.Node.{Control, Header, new_durable, started_with}
use Rattle.oc_model.specs.Records.{folded}
use Rattle.oc_model.specs.declared.record.Record.{Record}
use Rattle.oc_node.specs.NodeView.{IsReached, NodeView}
use Rattle.oc_io.specs.DiskView.{DiskView, IsConsistent}
use Rattle.oc_io.proofs.DiskMoments.{LeavesOnly-start, StaysAsItWas-none}
use Rattle.oc_store.specs.ControlFiles.{current_frames, records_of, recovered as recovered_records}
use Rattle.oc_store.specs.Promises.{IsStoreOf, LoadBothSafely}
use Rattle.oc_store.specs.StoreView.{AreGood, Recovers, StoreView, first_disk, second_disk}
use Rattle.oc_keep.specs.Files.{Disks, Survives, disks, recovered}
use Rattle.oc_keep.specs.KeptView.{IsHonest, IsKept, KeptView, disks_of, header_of, kept_of, node_of}
use Rattle.oc_keep.specs.Promises.{IsNodeOf, LoadsSafely}
use Rattle.oc_keep.proofs.Leaving.{told}
use Rattle.oc_keep.proofs.Stays.{Law, all_honest, kept_survives, was_honest}

-- a disk that was not loaded yet
loads_none : (u : DiskView) → (IsTrue u.honest → IsConsistent u) → journals.LoadsSafely u u
loads_none u law = record {
  goes_on = (StaysAsItWas-none u).goes_on;
  any_moment = λ honest. LeavesOnly-start u (IsLikeAnImage u) (law honest) (λ c left. (c, left, refl));
}

-- files with the same frames recover the same node
recovered_same : (h : Header) (me : ℕ) (a b c x y z : List ℕ) → frames_of a ≡ frames_of x → frames_of b ≡ frames_of y → frames_of c ≡ frames_of z → recovered h me a b c ≡ recovered h me x y z
recovered_same h me a b c x y z ea eb ec =
    ap (λ (bodies : List (List ℕ)). record { control = started_with h me (folded (new_durable h.nodes) (records_of h.nodes (current_frames bodies (frames_of b)))); groups = groups_in (frames_of c) }) ea
    ∙ ap (λ (bodies : List (List ℕ)). record { control = started_with h me (folded (new_durable h.nodes) (records_of h.nodes (current_frames (frames_of x) bodies))); groups = groups_in (frames_of c) }) eb
    ∙ ap (λ (bodies : List (List ℕ)). record { control = started_with h me (folded (new_durable h.nodes) (records_of h.nodes (current_frames (frames_of x) (frames_of y)))); groups = groups_in bodies }) ec

-- a load of three disks
loads_all : {D : Type 0} (view : D → DiskView) (h : Header) (me : ℕ) (d e : Disks D) → journals.LoadsSafely (view d.control) (view e.control) → journals.LoadsSafely (view d.alternate) (view e.alternate) → journals.LoadsSafely (view d.content) (view e.content) → LoadsSafely view h me d e
loads_all view h me d e first second third = record {
  goes_on = record { control = first.goes_on; alternate = second.goes_on; content = third.goes_on };
  any_moment = λ honest. record {
    later = record { control = (first.any_moment honest.control).later; alternate = (second.any_moment honest.alternate).later; content = (third.any_moment honest.content).later };
    each = λ a b c left.
        let x = (first.any_moment honest.control).each a left.control in
        let y = (second.any_moment honest.alternate).each b left.alternate in
        let z = (third.any_moment honest.content).each c left.content in
        record {
          a = x.0;
          b = y.0;
          c = z.0;
          left = record { control = x.1; alternate = y.1; content = z.1 };
          is = recovered_same h me a b c x.0 y.0 z.0 x.2 y.2 z.2;
        };
  };
}

-- a load of the control files
pub loads_controls : {D : Type 0} (view : D → DiskView) (h : Header) (me : ℕ) (x y z x2 y2 : D) → Law view → LoadBothSafely (view x) (view y) (view x2) (view y2) → LoadsSafely view h me (disks x y z) (disks x2 y2 z)
loads_controls view h me x y z x2 y2 law both = loads_all view h me (disks x y z) (disks x2 y2 z) both.first both.second (loads_none (view z) (law z))

-- a load of all three files, with the disks that come back
pub loads_files : {D : Type 0} (view : D → DiskView) (h : Header) (me : ℕ) (x y z x2 y2 z2 : D) (s : StoreView D) (disk : D) → LoadBothSafely (view x) (view y) (view (first_disk s)) (view (second_disk s)) → journals.LoadsSafely (view z) (view disk)
    → x2 ≡ first_disk s → y2 ≡ second_disk s → z2 ≡ disk → LoadsSafely view h me (disks x y z) (disks x2 y2 z2)
loads_files {D} view h me x y z x2 y2 z2 s disk both content first second third = loads_all view h me (disks x y z) (disks x2 y2 z2)
    (subst (λ (d : D). journals.LoadsSafely (view x) (view d)) (sym first) both.first)
    (subst (λ (d : D). journals.LoadsSafely (view y) (view d)) (sym second) both.second)
    (subst (λ (d : D). journals.LoadsSafely (view z) (view d)) (sym third) content)

-- A node that is loaded

-- the parts that were read from three honest disks, and the views that have them
module _ {D : Type 0} (view : D → DiskView) (h : Header) (me : ℕ) (x y z : D) (node : NodeView) (s : StoreView D) (l : ContentView D) (list : List Record)
    (started : node.control ≡ started_with h me (folded (new_durable h.nodes) list)) (store : IsStoreOf view h.nodes x y s list) (safely : LoadBothSafely (view x) (view y) (view (first_disk s)) (view (second_disk s)))
    (content : IsContentOf view z l) (content_safely : journals.LoadsSafely (view z) (view l.journal.disk)) where
  abbrev k : KeptView D
  k = kept_of node s l false

  nodes_are : node.control.nodes ≡ h.nodes
  nodes_are = ap (λ (n : Control). n.nodes) started

  first_honest : IsHonest view k → IsTrue (view x).honest
  first_honest honest = was_honest (view x) (view (first_disk s)) safely.first.goes_on honest.control

  second_honest : IsHonest view k → IsTrue (view y).honest
  second_honest honest = was_honest (view y) (view (second_disk s)) safely.second.goes_on honest.alternate

  pub loaded_kept : IsReached node.control → node.control.kept.log.length ≤ MAX_BASE_ACKED + s.current.end → node.control.kept.log.length ≤ MAX_LOG_LENGTH → IsKept view k
  loaded_kept reached log short = record {
    reached = reached;
    open_store = λ is_open. store.unclosed;
    open_content = λ is_open. content.journal.unclosed;
    folds = λ is_open honest.
        ap (λ (n : Control). n.kept) started
        ∙ ap (folded (new_durable h.nodes)) (store.records_are (first_honest honest) (second_honest honest))
        ∙ ap (λ (bodies : List (List ℕ)). folded (new_durable h.nodes) (records_of h.nodes bodies)) (sym (store.frames (first_honest honest) (second_honest honest)))
        ∙ ap (λ (n : ℕ). folded (new_durable n) (records_of n s.current.frames)) (sym nodes_are);
    control_files = λ is_open honest. subst (λ (bodies : List (List ℕ)). Recovers view s bodies) (sym (store.frames (first_honest honest) (second_honest honest))) (store.kept (first_honest honest) (second_honest honest));
    good = λ is_open honest. subst (λ (n : ℕ). AreGood n s) (sym nodes_are) (store.good (first_honest honest) (second_honest honest));
    content_file = λ is_open honest. content.journal.kept (was_honest (view z) (view l.journal.disk) content_safely.goes_on honest.content);
    shelved = λ honest. content.shelved (was_honest (view z) (view l.journal.disk) content_safely.goes_on honest);
    log = λ is_open. log;
    short = short;
  }

  pub loaded_node : IsKept view k → IsNodeOf view h me (disks x y z) k
  loaded_node is = record {
    header = ap header_of started;
    id = ap (λ (n : Control). n.me) started;
    node = λ honest.
        ap (λ (n : Control). record { control = n; groups = groups_in l.journal.frames }) (started ∙ ap (λ (rs : List Record). started_with h me (folded (new_durable h.nodes) rs)) (store.records_are honest.control honest.alternate))
        ∙ ap (λ (bodies : List (List ℕ)). record { control = started_with h me (folded (new_durable h.nodes) (recovered_records h.nodes (view x).seen (view y).seen)); groups = groups_in bodies }) (content.journal.frames honest.content);
    survives = λ honest.
        subst (λ (n : Control). Survives view (header_of n) n.me (disks_of k) (node_of k)) started
        (kept_survives view k is refl (all_honest view (disks x y z) (disks_of k) (record { control = safely.first.goes_on; alternate = safely.second.goes_on; content = content_safely.goes_on }) honest));
    files = λ honest. record {
      control = store.good_first honest.control;
      alternate = store.good_second honest.alternate;
      content = (content.journal.journal honest.content, subst (λ (bodies : List (List ℕ)). IsSome (content_of bodies)) (content.journal.frames honest.content) (told l.journal.frames l.shelves (content.shelved honest.content)));
    };
    unclosed = refl;
  }
