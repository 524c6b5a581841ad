-- Calls that wrote nothing to a node's disks.
use Rattle.std.proofs.Common.{◌≡◌, inl, ◌≤◌, ℕ, true, false, IsTrue, Bool, List, refl, sym, ap, subst, ◌∙◌, ⊎_elim, arith}
use Rattle.oc_io.specs.DiskView.{DiskView, GoesOn, StaysAsItWas, IsConsistent}
use Rattle.oc_io.proofs.DiskMoments.{StaysAsItWas-none, still_honest}
use Rattle.oc_journal.specs.JournalView.{JournalView}
use Rattle.oc_journal.specs.Promises.{OnlyReads}
use Rattle.oc_journal.proofs.ReadRuns.{HasFrames-reads, OnlyReads-none}
use Rattle.oc_content.specs.ContentFile.{IsShelved, groups_in}
use Rattle.oc_content.specs.ContentView.{ContentView}
use Rattle.oc_content.specs.Promises.{PutsNothing}
use Rattle.oc_model.specs.Node.{Control, Header, Node, Outcome, new_durable}
use Rattle.oc_model.specs.Records.{folded}
use Rattle.oc_store.specs.ControlFiles.{at_side, first_bad, records_of}
use Rattle.oc_store.specs.declared.errors.Side.{Side}
use Rattle.oc_store.specs.Promises.{ReservesCurrent, ReservesOther}
use Rattle.oc_store.specs.StoreView.{StoreView, first_disk, second_disk}
use Rattle.oc_keep.specs.Calls.{KeepsNode, StaysTheSame}
use Rattle.oc_keep.specs.Files.{Disks, AllGoOn, AlwaysLeaves, AreHonest, HadLeft, Leaves, MayLeave, SameAsEither, SameDurable}
use Rattle.oc_keep.specs.KeptView.{AtAnyMoment, IsHonest, IsKept, KeptView, NodeSurvives, disks_of, header_of, kept_of, node_of}
use Rattle.oc_keep.specs.Promises.{ChangesNothing}
use Rattle.oc_keep.specs.ReadyView.{ReadyView, outcome_of}
use Rattle.oc_node.specs.NodeView.{IsReached, NodeView}
use Rattle.oc_keep.specs.Writing.{KeepsStore}
use Rattle.oc_keep.proofs.Sides.{honest_store, related_sides}

-- Disks

-- nothing was written to any of the disks
pub record AllStay {D : Type 0} (view : D → DiskView) (old new : Disks D) : Type 0 where
  pub control : StaysAsItWas (view old.control) (view new.control)
  pub alternate : StaysAsItWas (view old.alternate) (view new.alternate)
  pub content : StaysAsItWas (view old.content) (view new.content)

-- the law of the disk model: an honest disk is consistent
abbrev pub Law : {D : Type 0} → (D → DiskView) → Type 0
Law {D} view = (x : D) → IsTrue (view x).honest → IsConsistent (view x)

-- the images of an unwritten disk are those that a crash left before
pub left_before : (v w : DiskView) (a : List ℕ) → IsConsistent v → IsTrue v.honest → StaysAsItWas v w → w.since v.moment a → v.may_leave a
left_before v w a law honest stays left = ⊎_elim (law.only_now a) (stays.images honest a) ((stays.time honest).nothing_else v.moment a (omega arith) left)

-- the same for all three disks
pub all_left_before : {D : Type 0} (view : D → DiskView) (old new : Disks D) (a b c : List ℕ) → Law view → AreHonest view old → AllStay view old new → HadLeft view old new a b c → MayLeave view old a b c
all_left_before view old new a b c law honest stay left = record {
  control = left_before (view old.control) (view new.control) a (law old.control honest.control) honest.control stay.control left.control;
  alternate = left_before (view old.alternate) (view new.alternate) b (law old.alternate honest.alternate) honest.alternate stay.alternate left.alternate;
  content = left_before (view old.content) (view new.content) c (law old.content honest.content) honest.content stay.content left.content;
}

-- a property that every crash leaves is left at any moment
pub always_stays : {D : Type 0} (view : D → DiskView) (h : Header) (me : ℕ) (old new : Disks D) (P : Node → Type 0) → Law view → AreHonest view old → AllStay view old new → Leaves view h me old P → AlwaysLeaves view h me old new P
always_stays view h me old new P law honest stay leaves = record {
  later = record { control = (stay.control.time honest.control).later; alternate = (stay.alternate.time honest.alternate).later; content = (stay.content.time honest.content).later };
  each = λ a b c left. leaves.each a b c (all_left_before view old new a b c law honest stay left);
}

-- a property that every crash at any moment leaves is left by a crash now
pub leaves_now : {D : Type 0} (view : D → DiskView) (h : Header) (me : ℕ) (old new : Disks D) (P : Node → Type 0) → Law view → AreHonest view new → AlwaysLeaves view h me old new P → Leaves view h me new P
leaves_now view h me old new P law honest always = record {
  each = λ a b c left. always.each a b c (record {
    control = (law new.control honest.control).counts_now (view old.control).moment a always.later.control left.control;
    alternate = (law new.alternate honest.alternate).counts_now (view old.alternate).moment b always.later.alternate left.alternate;
    content = (law new.content honest.content).counts_now (view old.content).moment c always.later.content left.content;
  });
}

pub all_go_on : {D : Type 0} (view : D → DiskView) (old new : Disks D) → AllStay view old new → AllGoOn view old new
all_go_on view old new stay = record { control = stay.control.goes_on; alternate = stay.alternate.goes_on; content = stay.content.goes_on }

pub all_stay : {D : Type 0} (view : D → DiskView) (d : Disks D) → AllStay view d d
all_stay view d = record { control = StaysAsItWas-none (view d.control); alternate = StaysAsItWas-none (view d.alternate); content = StaysAsItWas-none (view d.content) }

-- the disks stay honest, and were honest before
pub all_honest : {D : Type 0} (view : D → DiskView) (old new : Disks D) → AllGoOn view old new → AreHonest view old → AreHonest view new
all_honest view old new on honest = record {
  control = still_honest (view old.control) (view new.control) on.control honest.control;
  alternate = still_honest (view old.alternate) (view new.alternate) on.alternate honest.alternate;
  content = still_honest (view old.content) (view new.content) on.content honest.content;
}

pub was_honest : (u v : DiskView) → GoesOn u v → IsTrue v.honest → IsTrue u.honest
was_honest u v goes honest = subst (λ (b : Bool). IsTrue b) goes.honest honest

pub all_were_honest : {D : Type 0} (view : D → DiskView) (old new : Disks D) → AllGoOn view old new → AreHonest view new → AreHonest view old
all_were_honest view old new on honest = record {
  control = was_honest (view old.control) (view new.control) on.control honest.control;
  alternate = was_honest (view old.alternate) (view new.alternate) on.alternate honest.alternate;
  content = was_honest (view old.content) (view new.content) on.content honest.content;
}

-- Stores

-- room was reserved in the current file, or in the other one
pub keeps_current : {D : Type 0} (view : D → DiskView) (s s2 : StoreView D) → ReservesCurrent view s s2 → KeepsStore view s s2
keeps_current view s s2 r = record {
  current = r.current;
  other = subst (λ (j : JournalView _). OnlyReads view s.other j) (sym r.other) (OnlyReads-none view s.other);
  side = r.side;
  generation = r.generation;
  closed = r.closed;
}

pub keeps_other : {D : Type 0} (view : D → DiskView) (s s2 : StoreView D) → ReservesOther view s s2 → KeepsStore view s s2
keeps_other view s s2 r = record {
  current = subst (λ (j : JournalView _). OnlyReads view s.current j) (sym r.current) (OnlyReads-none view s.current);
  other = r.other;
  side = r.side;
  generation = r.generation;
  closed = r.closed;
}

pub keeps_none : {D : Type 0} (view : D → DiskView) (s : StoreView D) → KeepsStore view s s
keeps_none view s = record { current = OnlyReads-none view s.current; other = OnlyReads-none view s.other; side = refl; generation = refl; closed = refl }

-- the disks of a store in which only room was reserved
store_stays : {D : Type 0} (view : D → DiskView) (s s2 : StoreView D) → KeepsStore view s s2
    → StaysAsItWas (view (first_disk s)) (view (first_disk s2)) × StaysAsItWas (view (second_disk s)) (view (second_disk s2))
store_stays view s s2 keeps =
    subst (λ (side : Side). StaysAsItWas (view (first_disk s)) (view (at_side side s2.current.disk s2.other.disk)) × StaysAsItWas (view (second_disk s)) (view (at_side side s2.other.disk s2.current.disk))) (sym keeps.side)
    (related_sides (λ x y. StaysAsItWas (view x) (view y)) s.side s.current.disk s.other.disk s2.current.disk s2.other.disk keeps.current.disk keeps.other.disk)

-- an unchanged content log
pub puts_none : {D : Type 0} (view : D → DiskView) (c : ContentView D) → PutsNothing view c c
puts_none view c = record { journal = OnlyReads-none view c.journal; shelves = refl; rooms = λ i. omega arith; memory = omega arith }

-- Nodes

-- a node on its files of which nothing changed
pub nothing_stays : {D : Type 0} (view : D → DiskView) (k k2 : KeptView D) → ChangesNothing view k k2 → AllStay view (disks_of k) (disks_of k2)
nothing_stays view k k2 same =
    let store = store_stays view k.store k2.store same.store in
    record { control = store.0; alternate = store.1; content = same.content.journal.disk }

pub nothing_node : {D : Type 0} (view : D → DiskView) (k k2 : KeptView D) → ChangesNothing view k k2 → IsTrue (view k.content.journal.disk).honest → node_of k2 ≡ node_of k
nothing_node view k k2 same honest =
    ap (λ (n : Control). record { control = n; groups = groups_in k2.content.journal.frames }) same.control
    ∙ ap (λ (bodies : List (List ℕ)). record { control = k.node.control; groups = groups_in bodies }) (same.content.journal.frames honest)

-- a node on its files of which only the content file was read
pub only_read : {D : Type 0} (view : D → DiskView) (node : NodeView) (s : StoreView D) (c c2 : ContentView D) (closed closed2 : Bool) → PutsNothing view c c2 → ChangesNothing view (kept_of node s c closed) (kept_of node s c2 closed2)
only_read view node s c c2 closed closed2 same = record { control = refl; store = keeps_none view s; content = same }

-- An open node, which every crash leaves

pub kept_survives : {D : Type 0} (view : D → DiskView) (k : KeptView D) → IsKept view k → k.closed ≡ false → IsHonest view k → NodeSurvives view k (node_of k)
kept_survives view k is is_open honest = record {
  each = λ a b c left. record {
    kept =
        ap (λ (bodies : List (List ℕ)). folded (new_durable k.node.control.nodes) (records_of k.node.control.nodes bodies)) (is.control_files is_open honest a b left.control left.alternate)
        ∙ sym (is.folds is_open honest);
    groups = ap groups_in (is.content_file is_open honest c left.content);
  };
}

-- the node at any moment of a call that changed nothing
pub nothing_moments : {D : Type 0} (view : D → DiskView) (k k2 : KeptView D) → Law view → IsKept view k → ChangesNothing view k k2 → k.closed ≡ false → IsHonest view k → AtAnyMoment view k k2 (SameDurable (node_of k))
nothing_moments view k k2 law is same is_open honest =
    always_stays view (header_of k.node.control) k.node.control.me (disks_of k) (disks_of k2) (SameDurable (node_of k)) law honest (nothing_stays view k k2 same) (kept_survives view k is is_open honest)

-- a call that changes nothing leaves the same node, now and at every moment
pub nothing_same : {D : Type 0} (view : D → DiskView) (k k2 : KeptView D) → Law view → IsKept view k → ChangesNothing view k k2 → StaysTheSame view k k2
nothing_same view k k2 law is nothing = record {
  nothing = nothing;
  node = λ honest. nothing_node view k k2 nothing honest.content;
  goes_on = all_go_on view (disks_of k) (disks_of k2) (nothing_stays view k k2 nothing);
  any_moment = nothing_moments view k k2 law is nothing;
}

-- no call at all leaves the same node
pub none_keeps : {D : Type 0} (view : D → DiskView) (k : KeptView D) → Law view → IsKept view k → KeepsNode view k k
none_keeps view k law is = record {
  control = refl;
  content = refl;
  goes_on = all_go_on view (disks_of k) (disks_of k) (all_stay view (disks_of k));
  any_moment = nothing_moments view k k law is (record { control = refl; store = keeps_none view k.store; content = puts_none view k.content });
}

-- the invariant of the node on its files holds, also where the node is closed now
pub nothing_kept : {D : Type 0} (view : D → DiskView) (k k2 : KeptView D) → IsKept view k → ChangesNothing view k k2 → (k2.closed ≡ false → (k.closed ≡ false) × (k2.content.journal.closed ≡ k.content.journal.closed)) → IsKept view k2
nothing_kept view k k2 is same still = record {
  reached = subst IsReached (sym same.control) is.reached;
  open_store = λ is_open. same.store.closed ∙ is.open_store (still is_open).0;
  open_content = λ is_open. (still is_open).1 ∙ is.open_content (still is_open).0;
  folds = λ is_open honest.
      let before = was honest in
      ap (λ (n : Control). n.kept) same.control ∙ is.folds (still is_open).0 before
      ∙ ap (λ (n : ℕ). folded (new_durable n) (records_of n k.store.current.frames)) (ap (λ (n : Control). n.nodes) (sym same.control))
      ∙ ap (λ (bodies : List (List ℕ)). folded (new_durable k2.node.control.nodes) (records_of k2.node.control.nodes bodies)) (sym (same.store.current.frames (current_honest before)));
  control_files = λ is_open honest a b left left_b.
      let before = was honest in
      is.control_files (still is_open).0 before a b (stay.control.images before.control a left) (stay.alternate.images before.alternate b left_b)
      ∙ sym (same.store.current.frames (current_honest before));
  good = λ is_open honest.
      let before = was honest in
      let nodes = ap (λ (n : Control). n.nodes) same.control in
      let good = is.good (still is_open).0 before in
      record {
        current = ap (λ (n : ℕ). first_bad n k2.store.current.frames) nodes ∙ ap (first_bad k.node.control.nodes) (same.store.current.frames (current_honest before)) ∙ good.current;
        other = ap (λ (n : ℕ). first_bad n k2.store.other.frames) nodes ∙ ap (first_bad k.node.control.nodes) (same.store.other.frames (other_honest before)) ∙ good.other;
      };
  content_file = λ is_open honest.
      let before = was honest in
      HasFrames-reads view k.content.journal k2.content.journal same.content.journal before.content (is.content_file (still is_open).0 before);
  shelved = λ honest.
      let before = was_honest (view k.content.journal.disk) (view k2.content.journal.disk) same.content.journal.disk.goes_on honest in
      subst (λ (bodies : List (List ℕ)). IsShelved bodies k2.content.shelves) (sym (same.content.journal.frames before))
      (subst (λ ls. IsShelved k.content.journal.frames ls) (sym same.content.shelves) (is.shelved before));
  log = λ is_open. omega (arith, is.log (still is_open).0, ap (λ (n : Control). n.kept.log.length) same.control, same.store.current.end);
  short = omega (arith, is.short, ap (λ (n : Control). n.kept.log.length) same.control);
}
  where
    stay : AllStay view (disks_of k) (disks_of k2)
    stay = nothing_stays view k k2 same

    was : IsHonest view k2 → IsHonest view k
    was honest = all_were_honest view (disks_of k) (disks_of k2) (all_go_on view (disks_of k) (disks_of k2) stay) honest

    current_honest : IsHonest view k → IsTrue (view k.store.current.disk).honest
    current_honest honest = (honest_store view k.store honest.control honest.alternate).0

    other_honest : IsHonest view k → IsTrue (view k.store.other.disk).honest
    other_honest honest = (honest_store view k.store honest.control honest.alternate).1

-- the invariant of a closed node speaks only of its control state and its groups
pub closed_kept : {D : Type 0} (view : D → DiskView) (k : KeptView D) (s : StoreView D) → IsKept view k → IsKept view (kept_of k.node s k.content true)
closed_kept view k s is = record {
  reached = is.reached;
  open_store = λ is_open. absurd cc;
  open_content = λ is_open. absurd cc;
  folds = λ is_open honest. absurd cc;
  control_files = λ is_open honest. absurd cc;
  good = λ is_open honest. absurd cc;
  content_file = λ is_open honest. absurd cc;
  shelved = is.shelved;
  log = λ is_open. absurd cc;
  short = is.short;
}

-- Calls after one that wrote nothing

-- a property that every crash leaves since such a call is left since the start
since_stays : {D : Type 0} (view : D → DiskView) (h : Header) (me : ℕ) (old mid new : Disks D) (P : Node → Type 0) → AreHonest view old → AllStay view old mid → AlwaysLeaves view h me mid new P → AlwaysLeaves view h me old new P
since_stays view h me old mid new P honest stay always =
    let first = stay.control.moment honest.control in
    let second = stay.alternate.moment honest.alternate in
    let third = stay.content.moment honest.content in
    record {
      later = record {
        control = subst (λ (t : ℕ). t ≤ (view new.control).moment) first always.later.control;
        alternate = subst (λ (t : ℕ). t ≤ (view new.alternate).moment) second always.later.alternate;
        content = subst (λ (t : ℕ). t ≤ (view new.content).moment) third always.later.content;
      };
      each = λ a b c left. always.each a b c (record {
        control = subst (λ (t : ℕ). (view new.control).since t a) (sym first) left.control;
        alternate = subst (λ (t : ℕ). (view new.alternate).since t b) (sym second) left.alternate;
        content = subst (λ (t : ℕ). (view new.content).since t c) (sym third) left.content;
      });
    }

-- an input that was made ready, and was then taken or refused
pub ready_moments : {D : Type 0} (view : D → DiskView) (old mid new : KeptView D) (ready : ReadyView) (after : Outcome) → ChangesNothing view old mid → IsHonest view old
    → node_of mid ≡ node_of old → outcome_of (node_of old) ready ≡ after
    → (IsHonest view mid → AtAnyMoment view mid new (SameAsEither (node_of mid) (outcome_of (node_of mid) ready).node)) → AtAnyMoment view old new (SameAsEither (node_of old) after.node)
ready_moments view old mid new ready after same honest node is moments =
    let stay = nothing_stays view old mid same in
    let m = moments (all_honest view (disks_of old) (disks_of mid) (all_go_on view (disks_of old) (disks_of mid) stay) honest) in
    let there : AlwaysLeaves view (header_of mid.node.control) mid.node.control.me (disks_of mid) (disks_of new) (SameAsEither (node_of old) (outcome_of (node_of old) ready).node) =
    subst (λ (n : Node). AlwaysLeaves view (header_of mid.node.control) mid.node.control.me (disks_of mid) (disks_of new) (SameAsEither n (outcome_of n ready).node)) node m in
    subst (λ (o : Outcome). AtAnyMoment view old new (SameAsEither (node_of old) o.node)) is
    (subst (λ (n : Control). AlwaysLeaves view (header_of n) n.me (disks_of old) (disks_of new) (SameAsEither (node_of old) (outcome_of (node_of old) ready).node)) same.control
    (since_stays view (header_of mid.node.control) mid.node.control.me (disks_of old) (disks_of mid) (disks_of new) (SameAsEither (node_of old) (outcome_of (node_of old) ready).node) honest stay there))

-- an input that was not made ready
pub unready_moments : {D : Type 0} (view : D → DiskView) (old new : KeptView D) (before after : Node) → AtAnyMoment view old new (SameDurable before) → AtAnyMoment view old new (SameAsEither before after)
unready_moments view old new before after moments = record { later = moments.later; each = λ a b c left. inl (moments.each a b c left) }
