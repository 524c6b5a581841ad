-- The files that a commit leaves, at its end and at every moment.
use Rattle.std.proofs.Common.{◌≡◌, ◌⊎◌, inl, inr, ℕ, ◌+◌, ◌≤◌, ◌<◌, ◌^◌, true, false, IsTrue, Bool, List, [], ◌∷◌, ◌++◌, length, Option, Some, None, option_map, unwrap_or, refl, sym, ap, subst, ◌∙◌, ⊎_elim, arith}
use Rattle.std.proofs.lemmas.List.{append-nil}
use Rattle.oc_base.specs.declared.group.Group.{Group}
use Rattle.oc_base.specs.declared.limits.TheConstants.{MAX_BASE_ACKED, MAX_JOURNAL_BYTES, MAX_LOG_LENGTH}
use Rattle.oc_base.specs.declared.shelf.Shelf.{Shelf}
use Rattle.oc_base.specs.Groups.{shelf}
use Rattle.oc_base.specs.Shelves.{line_of}
use Rattle.oc_content.specs.ContentFile.{IsShelved, content_of, fits, groups_in, taken, with_entry}
use Rattle.oc_content.specs.ContentView.{ContentView, PieceView, adds}
use Rattle.oc_content.specs.Entries.{Entry, entry_of}
use Rattle.oc_content.specs.Promises.{Commits as CommitsPiece}
use Rattle.oc_content.proofs.Lines.{length-shelf}
use Rattle.oc_content.proofs.Meanings.{content_of-push}
use Rattle.oc_journal.specs.JournalFile.{frames_of}
use Rattle.oc_journal.specs.JournalView.{HasFrames, JournalView}
use Rattle.oc_journal.specs.Promises.{IsFullFor}
use Rattle.oc_laws_step.proofs.Goes.{folded-append}
use Rattle.oc_model.specs.declared.record.Record.{Record}
use Rattle.oc_model.specs.Lawful.{AreRecords}
use Rattle.oc_model.specs.Node.{Control, Durable, new_durable}
use Rattle.oc_model.specs.Records.{folded}
use Rattle.oc_node.specs.Applying.{CanApply}
use Rattle.oc_node.specs.NodeView.{IsReached, NodeView}
use Rattle.oc_node.specs.Planned.{PlanView, control_after}
use Rattle.oc_node.proofs.Reaching.{reached_kept}
use Rattle.oc_io.specs.DiskView.{DiskView, GoesOn}
use Rattle.oc_io.specs.Faults.{Rose}
use Rattle.oc_io.proofs.DiskMoments.{StaysAsItWas-none}
use Rattle.oc_record.specs.Spelling.{records_bytes}
use Rattle.oc_store.specs.ControlFiles.{at_side, begun_generation, first_bad, generation_in, records_in, records_of, recovered_frames}
use Rattle.oc_store.specs.declared.errors.Side.{Side}
use Rattle.oc_store.specs.declared.errors.Side.TheVariants.{First, Second}
use Rattle.oc_store.specs.Promises.{Commits}
use Rattle.oc_store.specs.StoreView.{StoreView, first_disk, second_disk, AreGood, Recovers}
use Rattle.oc_store.specs.StoreView as stores
use Rattle.oc_store.proofs.FrameReads.{good_more, one_frame_more}
use Rattle.oc_store.proofs.Snapshots.{generation_spelled}
use Rattle.oc_keep.specs.declared.ready.Write.{Write}
use Rattle.oc_keep.specs.declared.ready.Write.TheVariants as writes
use Rattle.oc_keep.specs.Files.{AllGoOn, AreLater, AreReliable, HadLeft, OneRose, SameAsEither, SameDurable, recovered}
use Rattle.oc_keep.specs.KeptView.{AtAnyMoment, IsHonest, IsKept, KeptView, disks_of, header_of, node_of}
use Rattle.oc_keep.specs.ReadyView.{CanWrite, GrowsBy, groups_with, outcome_of}
use Rattle.oc_keep.specs.Writing.{CanPutWrite, FailsToWrite, HasRoomFor, IsTooLong, Writes, WritesSafely}
use Rattle.oc_keep.proofs.Growth.{log_grows}
use Rattle.oc_keep.proofs.Sides.{honest_store, related_sides, reliable_store}
use Rattle.oc_keep.proofs.Sizes.{records_fewer}
use Rattle.oc_keep.proofs.Stays.{Law, all_stay, all_go_on, all_were_honest}

-- lawful records are read from the frame that they are written to
abbrev pub Reads : Type 0
Reads = (nodes : ℕ) (list : List Record) → nodes < 2 ^ 32 → AreRecords nodes list → records_in nodes (records_bytes list) ≡ list

-- such a frame is good
abbrev pub Goods : Type 0
Goods = (nodes : ℕ) (list : List Record) → nodes < 2 ^ 32 → AreRecords nodes list → first_bad nodes (records_bytes list ∷ []) ≡ None

-- Before a commit

-- a prepared write can be put
pub can_put : {D : Type 0} (view : D → DiskView) (k : KeptView D) (p : PlanView) (w : Write) → CanWrite view k p w → CanPutWrite k.store k.content w
can_put view k p writes.Nothing can = tt
can_put view k p (writes.Records frame) can = can.1
can_put view k p (writes.Content piece) can = (can.1.prepared, can.1.adds)

-- a prepared write cannot fail on reliable disks
pub has_room : {D : Type 0} (view : D → DiskView) (k : KeptView D) (p : PlanView) (w : Write) → CanWrite view k p w → AreReliable view (disks_of k) → HasRoomFor view k.store k.content w
has_room view k p writes.Nothing can sure = tt
has_room view k p (writes.Records frame) can sure = record { reliable = (reliable_store view k.store sure.control sure.alternate).0; room = can.2.room; calls = can.2.calls }
has_room view k p (writes.Content piece) can sure = record { reliable = sure.content; room = can.1.room.room; calls = can.1.room.calls }

-- a prepared write is not too long on reliable disks
pub fits_file : {D : Type 0} (view : D → DiskView) (k : KeptView D) (p : PlanView) (w : Write) → CanWrite view k p w → AreReliable view (disks_of k) → ¬ IsTooLong k.store k.content w
fits_file view k p writes.Nothing can sure long = long
fits_file view k p (writes.Records frame) can sure long = can.2.fits (reliable_store view k.store sure.control sure.alternate).0 long
fits_file view k p (writes.Content piece) can sure long = can.1.room.fits sure.content long

-- Disks that go on

store_goes_on : {D : Type 0} (view : D → DiskView) (s s2 : StoreView D) → GoesOn (view s.current.disk) (view s2.current.disk) → s2.other ≡ s.other → s2.side ≡ s.side
    → GoesOn (view (first_disk s)) (view (first_disk s2)) × GoesOn (view (second_disk s)) (view (second_disk s2))
store_goes_on view s s2 current other side =
    let here : GoesOn (view s.other.disk) (view s2.other.disk) = subst (λ j. GoesOn (view s.other.disk) (view j.disk)) (sym other) (StaysAsItWas-none (view s.other.disk)).goes_on in
    subst (λ (x : Side). GoesOn (view (first_disk s)) (view (at_side x s2.current.disk s2.other.disk)) × GoesOn (view (second_disk s)) (view (at_side x s2.other.disk s2.current.disk))) (sym side)
    (related_sides (λ x y. GoesOn (view x) (view y)) s.side s.current.disk s.other.disk s2.current.disk s2.other.disk current here)

store_later : {D : Type 0} (view : D → DiskView) (s s2 : StoreView D) → (view s.current.disk).moment ≤ (view s2.current.disk).moment → s2.other ≡ s.other → s2.side ≡ s.side
    → ((view (first_disk s)).moment ≤ (view (first_disk s2)).moment) × ((view (second_disk s)).moment ≤ (view (second_disk s2)).moment)
store_later view s s2 current other side =
    let here : (view s.other.disk).moment ≤ (view s2.other.disk).moment = omega (arith, ap (λ j. (view j.disk).moment) other) in
    subst (λ (x : Side). ((view (first_disk s)).moment ≤ (view (at_side x s2.current.disk s2.other.disk)).moment) × ((view (second_disk s)).moment ≤ (view (at_side x s2.other.disk s2.current.disk)).moment)) (sym side)
    (related_sides (λ x y. (view x).moment ≤ (view y).moment) s.side s.current.disk s.other.disk s2.current.disk s2.other.disk current here)

pub write_goes_on : {D : Type 0} (view : D → DiskView) (k k2 : KeptView D) (w : Write) → WritesSafely view w k.store k.content k2.store k2.content → AllGoOn view (disks_of k) (disks_of k2)
write_goes_on view k k2 writes.Nothing safe =
    subst (λ s. AllGoOn view (disks_of k) (disks_of (record k2 { store = s }))) (sym safe.0) (subst (λ c. AllGoOn view (disks_of k) (disks_of (record k2 { store = k.store; content = c }))) (sym safe.1) (all_go_on view (disks_of k) (disks_of k) (all_stay view (disks_of k))))
write_goes_on view k k2 (writes.Records frame) safe =
    let store = store_goes_on view k.store k2.store safe.0.takes.goes_on safe.0.other safe.0.side in
    record { control = store.0; alternate = store.1; content = subst (λ c. GoesOn (view k.content.journal.disk) (view c.journal.disk)) (sym safe.1) (StaysAsItWas-none (view k.content.journal.disk)).goes_on }
write_goes_on view k k2 (writes.Content piece) safe =
    subst (λ s. AllGoOn view (disks_of k) (disks_of (record k2 { store = s }))) (sym safe.1)
    (record { control = (StaysAsItWas-none (view (first_disk k.store))).goes_on; alternate = (StaysAsItWas-none (view (second_disk k.store))).goes_on; content = safe.0.takes.goes_on })

-- The contents of the files

-- the groups of a content file with one more piece
pub groups_more : (bodies : List (List ℕ)) (lines : List Shelf) (body : List ℕ) (e : Entry) → IsShelved bodies lines → entry_of body ≡ Some e → fits (line_of e.group lines) (length lines) e.start (length e.bytes) e.seals ≡ true
    → groups_in (bodies ++ body ∷ []) ≡ with_entry e (groups_in bodies)
groups_more bodies lines body e shelved says fit = by_content (content_of bodies) refl shelved where
  by_content : (found : Option (List Group)) → content_of bodies ≡ found → option_map shelf found ≡ Some lines → groups_in (bodies ++ body ∷ []) ≡ with_entry e (groups_in bodies)
  by_content None none h = absurd cc
  by_content (Some ks) some h =
      let lines_are : shelf ks ≡ lines = cc in
      let fit' : fits (line_of e.group (shelf ks)) (length ks) e.start (length e.bytes) e.seals ≡ true =
      subst (λ (n : ℕ). fits (line_of e.group (shelf ks)) n e.start (length e.bytes) e.seals ≡ true) (length-shelf ks)
      (subst (λ (ls : List Shelf). fits (line_of e.group ls) (length ls) e.start (length e.bytes) e.seals ≡ true) (sym lines_are) fit) in
      let more : content_of (bodies ++ body ∷ []) ≡ Some (with_entry e ks) = content_of-push bodies ks body some ∙ (ap (taken ks) says ∙ took ks fit') in
      ap (λ (c : Option (List Group)). unwrap_or c []) more ∙ ap (λ (c : Option (List Group)). with_entry e (unwrap_or c [])) (sym some)
    where
      took : (ks : List Group) → fits (line_of e.group (shelf ks)) (length ks) e.start (length e.bytes) e.seals ≡ true → taken ks (Some e) ≡ Some (with_entry e ks)
      took ks t = rw t

-- a piece that adds something fits
piece_fits : (lines : List Shelf) (piece : PieceView) → IsTrue (adds piece) → (adds piece ≡ true → fits (line_of piece.entry.group lines) (length lines) piece.entry.start (length piece.entry.bytes) piece.entry.seals ≡ true)
    → fits (line_of piece.entry.group lines) (length lines) piece.entry.start (length piece.entry.bytes) piece.entry.seals ≡ true
piece_fits lines piece some fit = fit some

-- the durable state with one more frame of records
pub records_more : Reads → (n : Control) (rs : List Record) (bodies : List (List ℕ)) (frame : List ℕ) → n.nodes < 2 ^ 32 → AreRecords n.nodes rs → frame ≡ records_bytes rs → n.kept ≡ folded (new_durable n.nodes) (records_of n.nodes bodies)
    → folded (new_durable n.nodes) (records_of n.nodes (bodies ++ frame ∷ [])) ≡ folded n.kept rs
records_more reads n rs bodies frame few lawful spells folds =
    ap (folded (new_durable n.nodes)) (one_frame_more n.nodes bodies frame ∙ ap (λ (qs : List Record). records_of n.nodes bodies ++ qs) (ap (records_in n.nodes) spells ∙ reads n.nodes rs few lawful))
    ∙ folded-append (new_durable n.nodes) (records_of n.nodes bodies) rs
    ∙ ap (λ (d : Durable). folded d rs) (sym folds)

-- The frames after a commit
pub commit_grows : {D : Type 0} (view : D → DiskView) (k k2 : KeptView D) (w : Write) → Writes view w k.store k.content k2.store k2.content → WritesSafely view w k.store k.content k2.store k2.content
    → IsHonest view k → GrowsBy w k k2
commit_grows view k k2 writes.Nothing did safe honest = record {
  control = ap (λ s. s.current.frames) safe.0 ∙ sym (append-nil k.store.current.frames);
  content = ap (λ c. c.journal.frames) safe.1 ∙ sym (append-nil k.content.journal.frames);
}
commit_grows view k k2 (writes.Records frame) did safe honest = record {
  control = did.appends.frames (honest_store view k.store honest.control honest.alternate).0;
  content = ap (λ c. c.journal.frames) safe.1 ∙ sym (append-nil k.content.journal.frames);
}
commit_grows view k k2 (writes.Content piece) did safe honest = record {
  control = ap (λ s. s.current.frames) safe.1 ∙ sym (append-nil k.store.current.frames);
  content = did.1.appends.frames honest.content;
}

-- After a commit

-- the effect of a commit, except on the node
record After {D : Type 0} (view : D → DiskView) (k k2 : KeptView D) (rs : List Record) : Type 0 where
  open_store : k2.store.closed ≡ false
  open_content : k2.content.journal.closed ≡ false
  folds : IsHonest view k → folded (new_durable k.node.control.nodes) (records_of k.node.control.nodes k2.store.current.frames) ≡ folded k.node.control.kept rs
  control_files : IsHonest view k → Recovers view k2.store k2.store.current.frames
  good : IsHonest view k → AreGood k.node.control.nodes k2.store
  content_file : IsHonest view k → HasFrames (view k2.content.journal.disk) k2.content.journal.frames
  log : (folded k.node.control.kept rs).log.length ≤ MAX_BASE_ACKED + k2.store.current.end
  short : (folded k.node.control.kept rs).log.length ≤ MAX_LOG_LENGTH

-- a frame that is not too long ends within the limit
not_full : (n end : ℕ) → ¬ (MAX_JOURNAL_BYTES < end + 6 + n) → end + 6 + n ≤ MAX_JOURNAL_BYTES
not_full n end fits = omega (arith, fits)

module _ {D : Type 0} (view : D → DiskView) (reads : Reads) (k : KeptView D) (is : IsKept view k) (was_open : k.closed ≡ false) where
  abbrev n : Control
  n = k.node.control

  few_nodes : n.nodes < 2 ^ 32
  few_nodes = omega (arith, is.reached.header.few)

  current_honest : IsHonest view k → stores.AreHonest view k.store
  current_honest honest = honest_store view k.store honest.control honest.alternate

  folds_now : IsHonest view k → folded (new_durable n.nodes) (records_of n.nodes k.store.current.frames) ≡ n.kept
  folds_now honest = sym (is.folds was_open honest)

  -- nothing was written
  after_nothing : (k2 : KeptView D) (rs : List Record) → rs ≡ [] → k2.store ≡ k.store → k2.content ≡ k.content → After view k k2 rs
  after_nothing k2 rs none store content = rw none (record {
    open_store = ap (λ s. s.closed) store ∙ is.open_store was_open;
    open_content = ap (λ c. c.journal.closed) content ∙ is.open_content was_open;
    folds = λ honest. ap (λ s. folded (new_durable n.nodes) (records_of n.nodes s.current.frames)) store ∙ folds_now honest;
    control_files = λ honest. subst (λ s. Recovers view s s.current.frames) (sym store) (is.control_files was_open honest);
    good = λ honest. subst (AreGood n.nodes) (sym store) (is.good was_open honest);
    content_file = λ honest. subst (λ c. HasFrames (view c.journal.disk) c.journal.frames) (sym content) (is.content_file was_open honest);
    log = omega (arith, is.log was_open, ap (λ s. s.current.end) store);
    short = is.short;
  })

  -- a frame of records was written
  after_records : (goods : Goods) (k2 : KeptView D) (rs : List Record) (frame : List ℕ) → AreRecords n.nodes rs → frame ≡ records_bytes rs → Commits view frame k.store k2.store → k2.store.other ≡ k.store.other → k2.content ≡ k.content → ¬ IsFullFor (length frame) k.store.current → After view k k2 rs
  after_records goods k2 rs frame lawful spells wrote other content fits =
      let grows = log_grows n.nodes n.kept rs (MAX_BASE_ACKED + k.store.current.end) lawful (reached_kept n is.reached) (omega arith) (is.log was_open) in
      let fewer = records_fewer rs in
      let long : length frame ≡ length (records_bytes rs) = ap length spells in
      let within = not_full (length frame) k.store.current.end fits in
      record {
        open_store = wrote.unclosed;
        open_content = ap (λ c. c.journal.closed) content ∙ is.open_content was_open;
        folds = λ honest.
            ap (λ (bodies : List (List ℕ)). folded (new_durable n.nodes) (records_of n.nodes bodies)) (wrote.appends.frames (current_honest honest).0)
            ∙ records_more reads n rs k.store.current.frames frame few_nodes lawful spells (is.folds was_open honest);
        control_files = λ honest. subst (λ (bodies : List (List ℕ)). Recovers view k2.store bodies) (sym (wrote.appends.frames (current_honest honest).0)) (wrote.kept (current_honest honest));
        good = λ honest.
            let before = is.good was_open honest in
            let one = ap (λ (body : List ℕ). first_bad n.nodes (body ∷ [])) spells ∙ goods n.nodes rs few_nodes lawful in
            record {
              current = ap (first_bad n.nodes) (wrote.appends.frames (current_honest honest).0) ∙ good_more n.nodes k.store.current.frames frame before.current one;
              other = ap (λ (j : JournalView D). first_bad n.nodes j.frames) other ∙ before.other;
            };
        content_file = λ honest. subst (λ c. HasFrames (view c.journal.disk) c.journal.frames) (sym content) (is.content_file was_open honest);
        log = omega (arith, grows, fewer, long, wrote.appends.end);
        short = omega (arith, grows, fewer, long, within);
      }

  -- a piece of content was written
  after_piece : (k2 : KeptView D) (rs : List Record) (piece : PieceView) (held : ℕ) → rs ≡ [] → CommitsPiece view piece held k.content k2.content → k2.store ≡ k.store → After view k k2 rs
  after_piece k2 rs piece held none wrote store = rw none (record {
    open_store = ap (λ s. s.closed) store ∙ is.open_store was_open;
    open_content = wrote.appends.unclosed;
    folds = λ honest. ap (λ s. folded (new_durable n.nodes) (records_of n.nodes s.current.frames)) store ∙ folds_now honest;
    control_files = λ honest. subst (λ s. Recovers view s s.current.frames) (sym store) (is.control_files was_open honest);
    good = λ honest. subst (AreGood n.nodes) (sym store) (is.good was_open honest);
    content_file = λ honest. wrote.appends.kept honest.content;
    log = omega (arith, is.log was_open, ap (λ s. s.current.end) store);
    short = is.short;
  })

  after : (goods : Goods) (k2 : KeptView D) (p : PlanView) (w : Write) → AreRecords n.nodes p.records → CanWrite view k p w → Writes view w k.store k.content k2.store k2.content → WritesSafely view w k.store k.content k2.store k2.content → ¬ IsTooLong k.store k.content w → After view k k2 p.records
  after goods k2 p writes.Nothing lawful can wrote safe fits = after_nothing k2 p.records can safe.0 safe.1
  after goods k2 p (writes.Records frame) lawful can wrote safe fits = after_records goods k2 p.records frame lawful can.0 wrote safe.0.other safe.1 fits
  after goods k2 p (writes.Content piece) lawful can wrote safe fits = after_piece k2 p.records piece wrote.0 can.0 wrote.1 safe.1

  -- the invariant of the node on its files holds after a commit
  pub commit_kept : (goods : Goods) (k2 : KeptView D) (p : PlanView) (w : Write) → CanApply k.node p → CanWrite view k p w → Writes view w k.store k.content k2.store k2.content → WritesSafely view w k.store k.content k2.store k2.content → ¬ IsTooLong k.store k.content w
      → k2.node.control ≡ control_after n p → ((IsTrue (view k.content.journal.disk).honest → IsShelved k.content.journal.frames k.content.shelves) → IsTrue (view k2.content.journal.disk).honest → IsShelved k2.content.journal.frames k2.content.shelves)
      → IsKept view k2
  commit_kept goods k2 p w applies can wrote safe fits control lines =
      let so = after goods k2 p w applies.records can wrote safe fits in
      let kept : k2.node.control.kept ≡ folded n.kept p.records = ap (λ (m : Control). m.kept) control in
      let nodes : k2.node.control.nodes ≡ n.nodes = ap (λ (m : Control). m.nodes) control in
      let on = write_goes_on view k k2 w safe in
      record {
        reached = subst IsReached (sym control) applies.reached;
        open_store = λ _. so.open_store;
        open_content = λ _. so.open_content;
        folds = λ _ honest. kept ∙ sym (so.folds (all_were_honest view (disks_of k) (disks_of k2) on honest)) ∙ ap (λ (m : ℕ). folded (new_durable m) (records_of m k2.store.current.frames)) (sym nodes);
        control_files = λ _ honest. so.control_files (all_were_honest view (disks_of k) (disks_of k2) on honest);
        good = λ _ honest. subst (λ (m : ℕ). AreGood m k2.store) (sym nodes) (so.good (all_were_honest view (disks_of k) (disks_of k2) on honest));
        content_file = λ _ honest. so.content_file (all_were_honest view (disks_of k) (disks_of k2) on honest);
        shelved = lines is.shelved;
        log = λ _. omega (arith, so.log, ap (λ (d : Durable). d.log.length) kept);
        short = omega (arith, so.short, ap (λ (d : Durable). d.log.length) kept);
      }

  -- the generation of the control files stays
  pub commit_generation : (k2 : KeptView D) (p : PlanView) (w : Write) → AreRecords n.nodes p.records → begun_generation p.records ≡ 0 → CanWrite view k p w → Writes view w k.store k.content k2.store k2.content → WritesSafely view w k.store k.content k2.store k2.content
      → IsHonest view k → k2.store.generation ≡ k.store.generation
  commit_generation k2 p writes.Nothing lawful plain can wrote safe honest = ap (λ s. s.generation) safe.0
  commit_generation k2 p (writes.Content piece) lawful plain can wrote safe honest = ap (λ s. s.generation) safe.1
  commit_generation k2 p (writes.Records frame) lawful plain can wrote safe honest = by_frames k.store.current.frames refl where
    by_frames : (bodies : List (List ℕ)) → k.store.current.frames ≡ bodies → k2.store.generation ≡ k.store.generation
    by_frames [] none = wrote.generation_first none ∙ ap generation_in can.0 ∙ generation_spelled n.nodes p.records lawful ∙ plain ∙ sym (wrote.generation_none (current_honest honest).0 none)
    by_frames (body ∷ bodies) some = wrote.generation (omega (arith, ap length some))

  -- the groups are those of the step
  pub commit_node : (k2 : KeptView D) (p : PlanView) (w : Write) → Writes view w k.store k.content k2.store k2.content → WritesSafely view w k.store k.content k2.store k2.content
      → k2.node.control ≡ control_after n p → IsHonest view k → node_of k2 ≡ (outcome_of (node_of k) (record { plan = p; write = w })).node
  commit_node k2 p w wrote safe control honest =
      ap (λ (m : Control). record { control = m; groups = groups_in k2.content.journal.frames }) control
      ∙ ap (λ (ks : List Group). record { control = control_after n p; groups = ks }) (groups_after w wrote safe)
    where
      groups_after : (w : Write) → Writes view w k.store k.content k2.store k2.content → WritesSafely view w k.store k.content k2.store k2.content → groups_in k2.content.journal.frames ≡ groups_with w (groups_in k.content.journal.frames)
      groups_after writes.Nothing wrote safe = ap (λ c. groups_in c.journal.frames) safe.1
      groups_after (writes.Records frame) wrote safe = ap (λ c. groups_in c.journal.frames) safe.1
      groups_after (writes.Content piece) wrote safe = ap (λ (o : Option (List Group)). unwrap_or o []) (wrote.1.content honest.content)

  -- At every moment

  -- files with these frames recover the node before
  recovers_before : (a b c : List ℕ) → IsHonest view k → recovered_frames a b ≡ k.store.current.frames → frames_of c ≡ k.content.journal.frames → SameDurable (node_of k) (recovered (header_of n) n.me a b c)
  recovers_before a b c honest control content = record {
    kept = ap (λ (bodies : List (List ℕ)). folded (new_durable n.nodes) (records_of n.nodes bodies)) control ∙ folds_now honest;
    groups = ap groups_in content;
  }

  -- the control files, where they were not written, and the content file are as left before
  control_left : (law : Law view) (s2 : StoreView D) (a b : List ℕ) → s2 ≡ k.store → IsHonest view k → (view (first_disk s2)).since (view (first_disk k.store)).moment a → (view (second_disk s2)).since (view (second_disk k.store)).moment b → recovered_frames a b ≡ k.store.current.frames
  control_left law s2 a b same honest left left_b =
      is.control_files was_open honest a b
      ((law (first_disk k.store) honest.control).only_now a (subst (λ s. (view (first_disk s)).since (view (first_disk k.store)).moment a) same left))
      ((law (second_disk k.store) honest.alternate).only_now b (subst (λ s. (view (second_disk s)).since (view (second_disk k.store)).moment b) same left_b))

  content_left : (law : Law view) (c2 : ContentView D) (c : List ℕ) → c2 ≡ k.content → IsHonest view k → (view c2.journal.disk).since (view k.content.journal.disk).moment c → frames_of c ≡ k.content.journal.frames
  content_left law c2 c same honest left =
      is.content_file was_open honest c ((law k.content.journal.disk honest.content).only_now c (subst (λ x. (view x.journal.disk).since (view k.content.journal.disk).moment c) same left))

  pub commit_moments : (law : Law view) (k2 : KeptView D) (p : PlanView) (w : Write) → AreRecords n.nodes p.records → CanWrite view k p w → WritesSafely view w k.store k.content k2.store k2.content → IsHonest view k
      → AtAnyMoment view k k2 (SameAsEither (node_of k) (outcome_of (node_of k) (record { plan = p; write = w })).node)
  commit_moments law k2 p w lawful can safe honest = record { later = write_later w safe; each = λ a b c left. by_write w can safe a b c left } where
    same_store : (f : StoreView D → ℕ) → k2.store ≡ k.store → f k.store ≤ f k2.store
    same_store f e = omega (arith, ap f e)

    same_content : k2.content ≡ k.content → (view k.content.journal.disk).moment ≤ (view k2.content.journal.disk).moment
    same_content e = omega (arith, ap (λ c. (view c.journal.disk).moment) e)

    write_later : (w : Write) → WritesSafely view w k.store k.content k2.store k2.content → AreLater view (disks_of k) (disks_of k2)
    write_later writes.Nothing safe =
        record { control = same_store (λ s. (view (first_disk s)).moment) safe.0; alternate = same_store (λ s. (view (second_disk s)).moment) safe.0; content = same_content safe.1 }
    write_later (writes.Records frame) safe =
        let store = store_later view k.store k2.store (safe.0.later (is.open_store was_open) (current_honest honest).0) safe.0.other safe.0.side in
        record { control = store.0; alternate = store.1; content = same_content safe.1 }
    write_later (writes.Content piece) safe =
        record { control = same_store (λ s. (view (first_disk s)).moment) safe.1; alternate = same_store (λ s. (view (second_disk s)).moment) safe.1; content = (safe.0.any_moment (is.open_content was_open) honest.content).later }

    by_write : (w : Write) → CanWrite view k p w → WritesSafely view w k.store k.content k2.store k2.content → (a b c : List ℕ) → HadLeft view (disks_of k) (disks_of k2) a b c
        → SameAsEither (node_of k) (outcome_of (node_of k) (record { plan = p; write = w })).node (recovered (header_of n) n.me a b c)
    by_write writes.Nothing can safe a b c left =
        inl (recovers_before a b c honest (control_left law k2.store a b safe.0 honest left.control left.alternate) (content_left law k2.content c safe.1 honest left.content))
    by_write (writes.Records frame) can safe a b c left =
        let content = content_left law k2.content c safe.1 honest left.content in
        ⊎_elim (λ control. inl (recovers_before a b c honest control content))
        (λ control. inr (record {
          kept = ap (λ (bodies : List (List ℕ)). folded (new_durable n.nodes) (records_of n.nodes bodies)) control ∙ records_more reads n p.records k.store.current.frames frame few_nodes lawful can.0 (is.folds was_open honest);
          groups = ap groups_in content;
        }))
        (safe.0.any_moment (is.open_store was_open) (current_honest honest) a b left.control left.alternate)
    by_write (writes.Content piece) can safe a b c left =
        let control = control_left law k2.store a b safe.1 honest left.control left.alternate in
        ⊎_elim (λ content. inl (recovers_before a b c honest control content))
        (λ content. inr (record {
          kept = ap (λ (bodies : List (List ℕ)). folded (new_durable n.nodes) (records_of n.nodes bodies)) control ∙ folds_now honest ∙ ap (folded n.kept) (sym can.0);
          groups = ap groups_in content ∙ groups_more k.content.journal.frames k.content.shelves piece.body piece.entry (is.shelved honest.content) can.1.says (piece_fits k.content.shelves piece can.1.adds can.1.prepared.fits);
        }))
        ((safe.0.any_moment (is.open_content was_open) honest.content).each c left.content)

-- A failed disk

-- the lines still tell the frames of the content file
failed_lines : {D : Type 0} (view : D → DiskView) (k k2 : KeptView D) (w : Write) → IsKept view k → FailsToWrite view w k.store k.content k2.store k2.content → WritesSafely view w k.store k.content k2.store k2.content → IsTrue (view k2.content.journal.disk).honest → IsShelved k2.content.journal.frames k2.content.shelves
failed_lines view k k2 writes.Nothing is failed safe honest = absurd failed
failed_lines view k k2 (writes.Records frame) is failed safe honest =
    let P : ContentView _ → Type 0 = λ c. IsTrue (view c.journal.disk).honest → IsShelved c.journal.frames c.shelves in
    subst P (sym safe.1) is.shelved honest
failed_lines view k k2 (writes.Content piece) is failed safe honest =
    let before : IsTrue (view k.content.journal.disk).honest = subst (λ (b : Bool). IsTrue b) safe.0.takes.goes_on.honest honest in
    subst (λ (bodies : List (List ℕ)). IsShelved bodies k2.content.shelves) (sym (failed.journal.frames before))
    (subst (λ (ls : List Shelf). IsShelved k.content.journal.frames ls) (sym failed.shelves) (is.shelved before))

-- the invariant holds after a disk failed, which closes the node
pub failed_kept : {D : Type 0} (view : D → DiskView) (k k2 : KeptView D) (w : Write) → IsKept view k → k2.node ≡ k.node → k2.closed ≡ true → FailsToWrite view w k.store k.content k2.store k2.content → WritesSafely view w k.store k.content k2.store k2.content → IsKept view k2
failed_kept view k k2 w is node closes failed safe = record {
  reached = subst (λ (n : NodeView). IsReached n.control) (sym node) is.reached;
  open_store = λ is_open. absurd (cc);
  open_content = λ is_open. absurd (cc);
  folds = λ is_open. absurd (cc);
  control_files = λ is_open. absurd (cc);
  good = λ is_open. absurd (cc);
  content_file = λ is_open. absurd (cc);
  shelved = failed_lines view k k2 w is failed safe;
  log = λ is_open. absurd (cc);
  short = omega (arith, is.short, ap (λ (n : NodeView). n.control.kept.log.length) node);
}

-- the count of faults of one disk rose
pub failed_rose : {D : Type 0} (view : D → DiskView) (k k2 : KeptView D) (w : Write) → FailsToWrite view w k.store k.content k2.store k2.content → WritesSafely view w k.store k.content k2.store k2.content → OneRose view (disks_of k) (disks_of k2)
failed_rose view k k2 writes.Nothing failed safe = absurd failed
failed_rose view k k2 (writes.Records frame) failed safe =
    let s = k.store in
    let s2 = k2.store in
    ⊎_elim (λ rose. inl rose) (λ rose. inr (inl rose))
    (subst (λ (x : Side). Rose (view (first_disk s)).faults (view (at_side x s2.current.disk s2.other.disk)).faults ⊎ Rose (view (second_disk s)).faults (view (at_side x s2.other.disk s2.current.disk)).faults) (sym safe.0.side) (by_side s.side))
  where
    by_side : (x : Side) → Rose (view (at_side x k.store.current.disk k.store.other.disk)).faults (view (at_side x k2.store.current.disk k2.store.other.disk)).faults ⊎ Rose (view (at_side x k.store.other.disk k.store.current.disk)).faults (view (at_side x k2.store.other.disk k2.store.current.disk)).faults
    by_side First = inl failed.current.fails.count
    by_side Second = inr failed.current.fails.count
failed_rose view k k2 (writes.Content piece) failed safe = inr (inr failed.journal.fails.count)

-- the groups stay
pub failed_groups : {D : Type 0} (view : D → DiskView) (k k2 : KeptView D) (w : Write) → FailsToWrite view w k.store k.content k2.store k2.content → WritesSafely view w k.store k.content k2.store k2.content → IsHonest view k → groups_in k2.content.journal.frames ≡ groups_in k.content.journal.frames
failed_groups view k k2 writes.Nothing failed safe honest = absurd failed
failed_groups view k k2 (writes.Records frame) failed safe honest = ap (λ c. groups_in c.journal.frames) safe.1
failed_groups view k k2 (writes.Content piece) failed safe honest = ap groups_in (failed.journal.frames honest.content)

-- the generation stays
pub failed_generation : {D : Type 0} (view : D → DiskView) (k k2 : KeptView D) (w : Write) → FailsToWrite view w k.store k.content k2.store k2.content → WritesSafely view w k.store k.content k2.store k2.content → k2.store.generation ≡ k.store.generation
failed_generation view k k2 writes.Nothing failed safe = absurd failed
failed_generation view k k2 (writes.Records frame) failed safe = failed.generation
failed_generation view k k2 (writes.Content piece) failed safe = ap (λ s. s.generation) safe.1
