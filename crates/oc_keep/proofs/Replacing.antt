-- A snapshot that takes the place of all records.
use Rattle.std.proofs.Common.{◌≡◌, ◌⊎◌, inl, inr, ℕ, ◌+◌, ◌-◌, ◌^◌, ◌<◌, ◌≤◌, Bool, false, IsTrue, List, [], ◌∷◌, length, sym, ap, subst, ◌∙◌, ⊎_elim, arith}
use Rattle.std.proofs.lemmas.List.{length-replicate}
use Rattle.oc_base.specs.Lawful.{IsCount}
use Rattle.oc_base.specs.declared.limits.TheConstants.{MAX_BASE_ACKED}
use Rattle.oc_content.specs.ContentFile.{groups_in}
use Rattle.oc_journal.specs.JournalFile.{frames_of}
use Rattle.oc_journal.specs.JournalView.{JournalView}
use Rattle.oc_journal.specs.Promises.{HasRoom, OnlyReads}
use Rattle.oc_laws_step.specs.Sound.{IsSoundDurable}
use Rattle.oc_model.specs.declared.record.Record.{Record}
use Rattle.oc_model.specs.Lawful.{AreRecords}
use Rattle.oc_model.specs.Node.{Control, Durable, new_durable, no_reading}
use Rattle.oc_model.specs.Records.{folded}
use Rattle.oc_model.specs.Snapshot.{snapshot}
use Rattle.oc_node.specs.NodeView.{IsReached}
use Rattle.oc_node.proofs.LawfulSnapshots.{lawful_snapshot}
use Rattle.oc_io.specs.DiskView.{CannotFail, DiskView, GoesOn, StaysAsItWas}
use Rattle.oc_io.specs.Faults.{Rose}
use Rattle.oc_io.proofs.DiskMoments.{GoesOn-then, StaysAsItWas-none, still_honest}
use Rattle.oc_record.specs.Spelling.{records_bytes}
use Rattle.oc_store.specs.ControlFiles.{at_side, first_bad, generation_in, records_of}
use Rattle.oc_store.specs.declared.errors.Side.{Side}
use Rattle.oc_store.specs.declared.errors.Side.TheVariants.{First, Second}
use Rattle.oc_store.specs.Promises.{ClosesByTurn, ReservesOther, TurnsOver}
use Rattle.oc_store.specs.Sides.{opposite}
use Rattle.oc_store.specs.StoreView.{StoreView, first_disk, second_disk, Recovers, RecoversEither}
use Rattle.oc_store.specs.StoreView as stores
use Rattle.oc_store.proofs.FrameReads.{one_frame}
use Rattle.oc_store.proofs.Snapshots.{generation_spelled}
use Rattle.oc_keep.specs.Files.{AllGoOn, SameDurable}
use Rattle.oc_keep.specs.KeptView.{AtAnyMoment, IsHonest, IsKept, KeptView, disks_of, node_of}
use Rattle.oc_keep.specs.Turning.{ClosesByTurning, Replaces, StoreGoesOn, StoreIsLater}
use Rattle.oc_keep.proofs.Committing.{Goods, Reads}
use Rattle.oc_keep.proofs.Sides.{honest_store, related_sides}
use Rattle.oc_keep.proofs.Stays.{Law, all_were_honest}

-- Moments

-- the images of one disk since the earlier time are its images since the later time, where no call came between
same_moment : (u v w : DiskView) (a : List ℕ) → StaysAsItWas u v → IsTrue u.honest → w.since u.moment a → w.since v.moment a
same_moment u v w a stays honest left = subst (λ (t : ℕ). w.since t a) (sym (stays.moment honest)) left

-- a reservation in the other file of a store, and then a change of the store
reserved_first : {D : Type 0} (view : D → DiskView) (s m s2 : StoreView D) (F G : List (List ℕ)) → ReservesOther view s m → stores.AreHonest view s → RecoversEither view m s2 F G → RecoversEither view s s2 F G
reserved_first view s m s2 F G reserves honest either = λ a b left left_b.
    let moved = moments s.side (sym reserves.side) in
    either a b (same_moment _ _ (view (first_disk s2)) a moved.0.0 moved.0.1 left) (same_moment _ _ (view (second_disk s2)) b moved.1.0 moved.1.1 left_b)
  where
    current : StaysAsItWas (view s.current.disk) (view m.current.disk)
    current = subst (λ (j : JournalView _). StaysAsItWas (view s.current.disk) (view j.disk)) (sym reserves.current) (StaysAsItWas-none (view s.current.disk))

    moments : (side : Side) → side ≡ m.side
        → (StaysAsItWas (view (at_side side s.current.disk s.other.disk)) (view (first_disk m)) × IsTrue (view (at_side side s.current.disk s.other.disk)).honest)
        × (StaysAsItWas (view (at_side side s.other.disk s.current.disk)) (view (second_disk m)) × IsTrue (view (at_side side s.other.disk s.current.disk)).honest)
    moments First e = subst (λ (side : Side). (StaysAsItWas (view s.current.disk) (view (at_side side m.current.disk m.other.disk)) × IsTrue (view s.current.disk).honest) × (StaysAsItWas (view s.other.disk) (view (at_side side m.other.disk m.current.disk)) × IsTrue (view s.other.disk).honest)) e
        ((current, honest.0), (reserves.other.disk, honest.1))
    moments Second e = subst (λ (side : Side). (StaysAsItWas (view s.other.disk) (view (at_side side m.current.disk m.other.disk)) × IsTrue (view s.other.disk).honest) × (StaysAsItWas (view s.current.disk) (view (at_side side m.other.disk m.current.disk)) × IsTrue (view s.current.disk).honest)) e
        ((reserves.other.disk, honest.1), (current, honest.0))

-- The store

-- the two files change sides
turned_sides : {A : Type 0} (R : A → A → Type 0) (side : Side) (x y x2 y2 : A) → R x y2 → R y x2 → R (at_side side x y) (at_side (opposite side) x2 y2) × R (at_side side y x) (at_side (opposite side) y2 x2)
turned_sides R First x y x2 y2 h k = (h, k)
turned_sides R Second x y x2 y2 h k = (k, h)

store_honest : {D : Type 0} (view : D → DiskView) (s m : StoreView D) → ReservesOther view s m → stores.AreHonest view s → stores.AreHonest view m
store_honest view s m reserves honest = (
  subst (λ (j : JournalView _). IsTrue (view j.disk).honest) (sym reserves.current) honest.0,
  still_honest (view s.other.disk) (view m.other.disk) reserves.other.disk.goes_on honest.1,
)

-- the frame of a snapshot was written to the other file
pub replaces_made : {D : Type 0} (view : D → DiskView) (s m s2 : StoreView D) (rs : List Record) (frame : List ℕ) → ReservesOther view s m → TurnsOver view frame m s2 → (stores.AreHonest view m → RecoversEither view m s2 m.current.frames (frame ∷ []))
    → frame ≡ records_bytes rs → generation_in frame ≡ s.generation + 1 → Replaces view rs s s2
replaces_made view s m s2 rs frame reserves turns moments spells generation = record {
  frames = λ honest. turns.frames (store_honest view s m reserves honest).1 ∙ ap (λ (body : List ℕ). body ∷ []) spells;
  kept = λ honest. subst (λ (body : List ℕ). Recovers view s2 (body ∷ [])) spells (turns.kept (store_honest view s m reserves honest));
  other = turns.other ∙ reserves.current;
  side = turns.side ∙ ap opposite reserves.side;
  generation = turns.generation ∙ generation;
  unclosed = turns.unclosed;
  goes_on = record { first = went.0; second = went.1 };
  later = λ honest.
      let moved = turned_later honest in
      record { first = moved.0; second = moved.1 };
  any_moment = λ honest.
      subst (λ (body : List ℕ). RecoversEither view s s2 s.current.frames (body ∷ [])) spells
      (subst (λ (j : JournalView _). RecoversEither view s s2 j.frames (frame ∷ [])) reserves.current
      (reserved_first view s m s2 m.current.frames (frame ∷ []) reserves honest (moments (store_honest view s m reserves honest))));
}
  where
    current : GoesOn (view s.current.disk) (view s2.other.disk)
    current = subst (λ (j : JournalView _). GoesOn (view s.current.disk) (view j.disk)) (sym (turns.other ∙ reserves.current)) (StaysAsItWas-none (view s.current.disk)).goes_on

    other : GoesOn (view s.other.disk) (view s2.current.disk)
    other = GoesOn-then (view s.other.disk) (view m.other.disk) (view s2.current.disk) reserves.other.disk.goes_on turns.takes.goes_on

    went : GoesOn (view (first_disk s)) (view (first_disk s2)) × GoesOn (view (second_disk s)) (view (second_disk s2))
    went = subst (λ (side : Side). GoesOn (view (first_disk s)) (view (at_side side s2.current.disk s2.other.disk)) × GoesOn (view (second_disk s)) (view (at_side side s2.other.disk s2.current.disk))) (sym (turns.side ∙ ap opposite reserves.side))
        (turned_sides (λ x y. GoesOn (view x) (view y)) s.side s.current.disk s.other.disk s2.current.disk s2.other.disk current other)

    turned_later : stores.AreHonest view s → ((view (first_disk s)).moment ≤ (view (first_disk s2)).moment) × ((view (second_disk s)).moment ≤ (view (second_disk s2)).moment)
    turned_later honest =
        let here : (view s.current.disk).moment ≤ (view s2.other.disk).moment = omega (arith, ap (λ (j : JournalView _). (view j.disk).moment) (turns.other ∙ reserves.current)) in
        let there : (view s.other.disk).moment ≤ (view s2.current.disk).moment = omega (arith, reserves.other.disk.moment honest.1, turns.later (store_honest view s m reserves honest).1) in
        subst (λ (side : Side). ((view (first_disk s)).moment ≤ (view (at_side side s2.current.disk s2.other.disk)).moment) × ((view (second_disk s)).moment ≤ (view (at_side side s2.other.disk s2.current.disk)).moment)) (sym (turns.side ∙ ap opposite reserves.side))
        (turned_sides (λ x y. (view x).moment ≤ (view y).moment) s.side s.current.disk s.other.disk s2.current.disk s2.other.disk here there)

-- the disk of the other file failed
pub closes_made : {D : Type 0} (view : D → DiskView) (s m s2 : StoreView D) (rs : List Record) (frame : List ℕ) → ReservesOther view s m → ClosesByTurn view frame m s2 → (stores.AreHonest view m → RecoversEither view m s2 m.current.frames (frame ∷ []))
    → frame ≡ records_bytes rs → ClosesByTurning view rs s s2
closes_made view s m s2 rs frame reserves closes moments spells = record {
  any_moment = λ honest.
      subst (λ (body : List ℕ). RecoversEither view s s2 s.current.frames (body ∷ [])) spells
      (subst (λ (j : JournalView _). RecoversEither view s s2 j.frames (frame ∷ [])) reserves.current
      (reserved_first view s m s2 m.current.frames (frame ∷ []) reserves honest (moments (store_honest view s m reserves honest))));
  rose =
      subst (λ (side : Side). Rose (view (first_disk s)).faults (view (at_side side s2.current.disk s2.other.disk)).faults ⊎ Rose (view (second_disk s)).faults (view (at_side side s2.other.disk s2.current.disk)).faults) (sym side)
      (by_side s.side);
  goes_on = record { first = went.0; second = went.1 };
  later = λ honest.
      let moved = closed_later honest in
      record { first = moved.0; second = moved.1 };
}
  where
    side : s2.side ≡ s.side
    side = closes.side ∙ reserves.side

    current : GoesOn (view s.current.disk) (view s2.current.disk)
    current = subst (λ (j : JournalView _). GoesOn (view s.current.disk) (view j.disk)) (sym (closes.current ∙ reserves.current)) (StaysAsItWas-none (view s.current.disk)).goes_on

    other : GoesOn (view s.other.disk) (view s2.other.disk)
    other = GoesOn-then (view s.other.disk) (view m.other.disk) (view s2.other.disk) reserves.other.disk.goes_on closes.takes.goes_on

    went : GoesOn (view (first_disk s)) (view (first_disk s2)) × GoesOn (view (second_disk s)) (view (second_disk s2))
    went = subst (λ (x : Side). GoesOn (view (first_disk s)) (view (at_side x s2.current.disk s2.other.disk)) × GoesOn (view (second_disk s)) (view (at_side x s2.other.disk s2.current.disk))) (sym side)
        (related_sides (λ x y. GoesOn (view x) (view y)) s.side s.current.disk s.other.disk s2.current.disk s2.other.disk current other)

    closed_later : stores.AreHonest view s → ((view (first_disk s)).moment ≤ (view (first_disk s2)).moment) × ((view (second_disk s)).moment ≤ (view (second_disk s2)).moment)
    closed_later honest =
        let here : (view s.current.disk).moment ≤ (view s2.current.disk).moment = omega (arith, ap (λ (j : JournalView _). (view j.disk).moment) (closes.current ∙ reserves.current)) in
        let there : (view s.other.disk).moment ≤ (view s2.other.disk).moment = omega (arith, reserves.other.disk.moment honest.1, closes.later (store_honest view s m reserves honest).1) in
        subst (λ (x : Side). ((view (first_disk s)).moment ≤ (view (at_side x s2.current.disk s2.other.disk)).moment) × ((view (second_disk s)).moment ≤ (view (at_side x s2.other.disk s2.current.disk)).moment)) (sym side)
        (related_sides (λ x y. (view x).moment ≤ (view y).moment) s.side s.current.disk s.other.disk s2.current.disk s2.other.disk here there)

    rose : Rose (view s.other.disk).faults (view s2.other.disk).faults
    rose = subst (λ (n : ℕ). Rose n (view s2.other.disk).faults) reserves.none_failed.no_fault closes.fails.count

    by_side : (x : Side) → Rose (view (at_side x s.current.disk s.other.disk)).faults (view (at_side x s2.current.disk s2.other.disk)).faults ⊎ Rose (view (at_side x s.other.disk s.current.disk)).faults (view (at_side x s2.other.disk s2.current.disk)).faults
    by_side First = inr rose
    by_side Second = inl rose

-- the reserved room is enough for the frame
pub sure_room : {D : Type 0} (view : D → DiskView) (j m : JournalView D) (rs : List Record) (frame : List ℕ) → OnlyReads view j m → HasRoom view m (length (records_bytes rs)) → frame ≡ records_bytes rs → IsTrue (view j.disk).reliable → CannotFail (length frame + 7) 6 (view m.disk)
sure_room view j m rs frame same room spells sure = record {
  reliable = subst (λ (b : Bool). IsTrue b) (sym same.disk.goes_on.reliable) sure;
  room = omega (arith, ap length spells, room.room);
  calls = omega (arith, room.calls);
}

-- the written frame is the snapshot's
pub spells_made : (frame : List ℕ) (now items rs : List Record) → frame ≡ records_bytes now → now ≡ items → items ≡ rs → frame ≡ records_bytes rs
spells_made frame now items rs spells same is = spells ∙ ap (λ (qs : List Record). records_bytes qs) (same ∙ is)

-- the next generation
pub next_count : (generation : ℕ) → generation < 2 ^ 64 - 1 → IsCount (generation + 1)
next_count generation next = (omega arith, omega (arith, next))

pub next_above : (generation : ℕ) → generation < 2 ^ 64 - 1 → (generation < generation + 1) × (generation + 1 < 2 ^ 64)
next_above generation next = (omega arith, omega (arith, next))

-- the generation of a snapshot's frame
pub snapshot_generation : (nodes generation : ℕ) (d : Durable) (frame : List ℕ) → AreRecords nodes (snapshot generation d) → frame ≡ records_bytes (snapshot generation d) → generation_in frame ≡ generation
snapshot_generation nodes generation d frame lawful spells = ap generation_in spells ∙ generation_spelled nodes (snapshot generation d) lawful

-- The node on its files

-- a snapshot gives the state from which it was made
abbrev pub Stands : Type 0
Stands = (nodes generation : ℕ) (state any : Durable) → IsSoundDurable nodes state → length any.measures ≡ nodes → folded any (snapshot generation state) ≡ state

-- a node's snapshot is lawful
snapshot_lawful : (n : Control) (generation : ℕ) → IsReached n → IsCount generation → n.kept.log.length ≤ MAX_BASE_ACKED → AreRecords n.nodes (snapshot generation n.kept)
snapshot_lawful n generation reached count based = lawful_snapshot n.nodes generation n.kept reached.header.some count reached.sound.kept.measures based reached.lawful.kept

-- the durable state recovered from the frame of a node's snapshot
frame_stands : Reads → Stands → (n : Control) (generation : ℕ) → IsReached n → IsCount generation → n.kept.log.length ≤ MAX_BASE_ACKED → folded (new_durable n.nodes) (records_of n.nodes (records_bytes (snapshot generation n.kept) ∷ [])) ≡ n.kept
frame_stands reads stands n generation reached count based =
    let lawful = snapshot_lawful n generation reached count based in
    ap (folded (new_durable n.nodes)) (one_frame n.nodes (records_bytes (snapshot generation n.kept)) ∙ reads n.nodes (snapshot generation n.kept) (omega (arith, reached.header.few)) lawful)
    ∙ stands n.nodes generation n.kept (new_durable n.nodes) reached.sound.kept (length-replicate n.nodes no_reading)

module _ {D : Type 0} (view : D → DiskView) (reads : Reads) (stands : Stands) (k : KeptView D) (is : IsKept view k) (was_open : k.closed ≡ false) (count : IsCount (k.store.generation + 1)) (based : k.node.control.kept.log.length ≤ MAX_BASE_ACKED) where
  abbrev rs : List Record
  rs = snapshot (k.store.generation + 1) k.node.control.kept

  turned_stands : folded (new_durable k.node.control.nodes) (records_of k.node.control.nodes (records_bytes rs ∷ [])) ≡ k.node.control.kept
  turned_stands = frame_stands reads stands k.node.control (k.store.generation + 1) is.reached count based

  pub turned_goes_on : (s2 : StoreView D) (closed : Bool) → StoreGoesOn view k.store s2 → AllGoOn view (disks_of k) (disks_of (record k { store = s2; closed = closed }))
  turned_goes_on s2 closed on = record { control = on.first; alternate = on.second; content = (StaysAsItWas-none (view k.content.journal.disk)).goes_on }

  -- the invariant of the node on its files holds
  pub turned_kept : (goods : Goods) (s2 : StoreView D) (closed : Bool) → Replaces view rs k.store s2 → IsKept view (record k { store = s2; closed = closed })
  turned_kept goods s2 closed turns = record {
    reached = is.reached;
    open_store = λ _. turns.unclosed;
    open_content = λ _. is.open_content was_open;
    folds = λ _ honest. sym (ap (λ (bodies : List (List ℕ)). folded (new_durable k.node.control.nodes) (records_of k.node.control.nodes bodies)) (turns.frames (before honest)) ∙ turned_stands);
    control_files = λ _ honest. subst (λ (bodies : List (List ℕ)). Recovers view s2 bodies) (sym (turns.frames (before honest))) (turns.kept (before honest));
    good = λ _ honest.
        let n = k.node.control in
        record {
          current = ap (first_bad n.nodes) (turns.frames (before honest)) ∙ goods n.nodes rs (omega (arith, is.reached.header.few)) (snapshot_lawful n (k.store.generation + 1) is.reached count based);
          other = ap (λ (j : JournalView D). first_bad n.nodes j.frames) turns.other ∙ (is.good was_open (was honest)).current;
        };
    content_file = λ _ honest. is.content_file was_open (was honest);
    shelved = is.shelved;
    log = λ _. omega (arith, based);
    short = is.short;
  }
    where
      was : IsHonest view (record k { store = s2; closed = closed }) → IsHonest view k
      was honest = all_were_honest view (disks_of k) (disks_of (record k { store = s2; closed = closed })) (turned_goes_on s2 closed turns.goes_on) honest

      before : IsHonest view (record k { store = s2; closed = closed }) → stores.AreHonest view k.store
      before honest = honest_store view k.store (was honest).control (was honest).alternate

  -- the same node is recovered at every moment
  pub turned_moments : Law view → (s2 : StoreView D) (closed : Bool) → (stores.AreHonest view k.store → StoreIsLater view k.store s2) → (stores.AreHonest view k.store → RecoversEither view k.store s2 k.store.current.frames (records_bytes rs ∷ [])) → IsHonest view k → AtAnyMoment view k (record k { store = s2; closed = closed }) (SameDurable (node_of k))
  turned_moments law s2 closed later moments honest = record {
    later =
        let store = later (honest_store view k.store honest.control honest.alternate) in
        record { control = store.first; alternate = store.second; content = omega arith };
    each = λ a b c left.
        let content : frames_of c ≡ k.content.journal.frames = is.content_file was_open honest c ((law k.content.journal.disk honest.content).only_now c left.content) in
        record {
          kept = ⊎_elim
              (λ same. ap (λ (bodies : List (List ℕ)). folded (new_durable k.node.control.nodes) (records_of k.node.control.nodes bodies)) same ∙ sym (is.folds was_open honest))
              (λ new. ap (λ (bodies : List (List ℕ)). folded (new_durable k.node.control.nodes) (records_of k.node.control.nodes bodies)) new ∙ turned_stands)
              (moments (honest_store view k.store honest.control honest.alternate) a b left.control left.alternate);
          groups = ap groups_in content;
        };
  }
