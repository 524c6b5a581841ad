-- An input made ready: its effect is that of its step.
use Rattle.std.proofs.Common.{◌≡◌, ◌↔◌, ℕ, zero, suc, ◌+◌, ◌-◌, ◌≤◌, ◌<◌, ◌^◌, Bool, true, false, not, IsTrue, List, [], ◌∷◌, length, take, drop, get_or, Option, Some, None, is_some, option_map, unwrap_or, refl, sym, ap, subst, ◌∙◌, arith}
use Rattle.std.specs.List.{AllByRecursion}
use Rattle.std.proofs.lemmas.List.{take_all}
use Rattle.oc_base.specs.declared.group.Group.{Group}
use Rattle.oc_base.specs.declared.named.Lookup.{Lookup}
use Rattle.oc_base.specs.declared.named.Lookup.TheVariants.{Found, Free}
use Rattle.oc_base.specs.declared.shelf.Shelf.{Shelf}
use Rattle.oc_base.specs.Groups.{bytes_of, group_of, or_empty, shelf, shelf_of}
use Rattle.oc_base.specs.Named.{same_name, is_free}
use Rattle.oc_base.specs.Names.{IsGroupName}
use Rattle.oc_base.specs.Shelves.{line_of, IsLineAt, LooksUpLine}
use Rattle.oc_base.proofs.NameOrder.{same_name-itself}
use Rattle.oc_content.specs.ContentFile.{IsShelved, content_of, fits, groups_in, with_entry}
use Rattle.oc_content.specs.ContentView.{ContentView, PieceView}
use Rattle.oc_content.specs.Entries.{Entry, entry_of, written}
use Rattle.oc_content.specs.Promises.{Prepares, PutsNothing}
use Rattle.oc_content.proofs.Lines.{line_of-goes, line_of-shelf}
use Rattle.oc_content.proofs.Spelling.{entry_of-written}
use Rattle.oc_content.specs.Indexes.{HasGroupRoom, HasTrackRoom}
use Rattle.oc_journal.specs.JournalView.{JournalView}
use Rattle.oc_journal.specs.Promises.{HasRoom, IsFullFor, NoneFailed}
use Rattle.oc_journal.proofs.ReadRuns.{OnlyReads-then}
use Rattle.oc_model.specs.declared.input.Input.{Input}
use Rattle.oc_laws_step.specs.Sound.{IsSoundRecord}
use Rattle.oc_laws_step.proofs.Steps.{writes as plan_writes}
use Rattle.oc_model.specs.declared.record.Record.{Record}
use Rattle.oc_model.specs.declared.record.Record.TheVariants as records
use Rattle.oc_model.specs.declared.want.Want.{Want}
use Rattle.oc_model.specs.NextWorld.{has_change}
use Rattle.oc_model.specs.Node.{Control}
use Rattle.oc_model.specs.Plan.{Plan}
use Rattle.oc_model.specs.Step.{Piece, filled, finished, kept_at, piece_of, plan, step}
use Rattle.oc_model.specs.Numbers.{is_empty}
use Rattle.oc_node.specs.Applying.{CanApply}
use Rattle.oc_node.specs.NodeView.{NodeView}
use Rattle.oc_node.specs.Planned.{PlanView, control_after, filled_with, planned}
use Rattle.oc_io.specs.DiskView.{DiskView, IsReliable}
use Rattle.oc_record.specs.Spelling.{records_bytes}
use Rattle.oc_store.specs.ControlFiles.{begun_generation}
use Rattle.oc_store.specs.StoreView.{StoreView}
use Rattle.oc_keep.specs.declared.ready.Write.{Write}
use Rattle.oc_keep.specs.declared.ready.Write.TheVariants as writes
use Rattle.oc_keep.specs.ControlStep.{AreSent, DoesControlStep, Fetches}
use Rattle.oc_keep.specs.KeptView.{IsFullAt, IsFullByPlan, IsFullWith, KeptView, kept_of}
use Rattle.oc_keep.specs.Puts.{CanKeep, CanPut, CanWant, entry_for}
use Rattle.oc_keep.specs.ReadyView.{CanCommit, CanWrite, IsFullToWrite, groups_with, is_written, outcome_of}
use Rattle.oc_keep.specs.Writing.{IsPutAs, IsRoomFor, IsWriteOf, KeepsStore, fetched}
use Rattle.oc_keep.proofs.Limits.{kept_is}
use Rattle.oc_keep.proofs.Stays.{Law, was_honest}
use Rattle.oc_keep.proofs.Wants.{wants_alone}

-- Pieces

-- a name that is found is in the list
found_there : (ls : List Shelf) (g : List ℕ) (i : ℕ) → IsLineAt ls g i → is_some (line_of g ls) ≡ true
found_there [] g i h = absurd h
found_there (l ∷ ls) g zero h = let same : same_name g l.group ≡ true = ap (same_name g) h ∙ same_name-itself g in rw same refl
found_there (l ∷ ls) g (suc i) h = rw h.0 (found_there ls g i h.1)

-- a place is free exactly where the name is absent
free_is : (ls : List Shelf) (g : List ℕ) (place : Lookup) → LooksUpLine ls g place → is_free place ≡ not (is_some (line_of g ls))
free_is ls g (Found i) at = ap not (sym (found_there ls g i at))
free_is ls g (Free i) at = ap (λ (l : Option Shelf). not (is_some l)) (sym (line_of-goes ls g i at))

-- the room that was reserved for a frame
pub room_for : {D : Type 0} (view : D → DiskView) (j : JournalView D) (n : ℕ) → (IsTrue (view j.disk).reliable → IsReliable (view j.disk)) → HasRoom view j n → IsRoomFor view j n
room_for view j n law has = record {
  room = omega (arith, has.room);
  calls = omega (arith, has.calls);
  fits = λ sure full. omega (arith, (law sure).fits (omega (arith, has.room)), has.room, has.within, full);
}

-- a piece that was prepared and can be put
pub put_as : {D : Type 0} (view : D → DiskView) (law : (x : D) → IsTrue (view x).reliable → IsReliable (view x)) (c c2 : ContentView D) (of : Piece) (at : ℕ) (closes : Bool) (piece : PieceView) → CanPut c.shelves of at closes → PutsNothing view c c2
    → Prepares view of.group at of.bytes closes c c2 piece → IsPutAs view c.shelves c2 of at closes piece
put_as view law c c2 of at closes piece can same made = record {
  entry = made.entry;
  body = made.body;
  can = record {
    prepared = made.prepared;
    adds = rw (← can.adds, free_is c2.shelves piece.entry.group piece.place made.prepared.place, same.shelves, made.entry) refl;
    says = ap entry_of made.body ∙ entry_of-written piece.entry named start;
    room = room_for view c2.journal (length piece.body) (law c2.journal.disk) made.room;
  };
}
  where
    named : IsGroupName piece.entry.group
    named = rw made.entry can.named

    start : piece.entry.start < 2 ^ 64
    start = omega (arith, ap (λ (e : Entry). e.start) made.entry, can.short)

-- Read bytes

-- read bytes that are all there are the requested ones
pub fetched_whole : (new whole : List ℕ) (count start : ℕ) → length new ≡ count → start + count ≤ length whole → take (length whole - start) new ≡ take count (drop start whole) → new ≡ take count (drop start whole)
fetched_whole new whole count start long within read =
    sym (take_all (length whole - start) new (omega (arith, long, within))) ∙ read

-- the length of a line is that of its group's bytes
pub held_there : (g : List ℕ) (ks : List Group) (l : Shelf) → line_of g (shelf ks) ≡ Some l → l.held ≡ length (bytes_of g ks)
held_there g ks l there = by_group (group_of g ks) (sym (line_of-shelf g ks) ∙ there) where
  by_group : (k : Option Group) → option_map shelf_of k ≡ Some l → l.held ≡ length (or_empty g k).bytes
  by_group None e = absurd cc
  by_group (Some k) e = let same : shelf_of k ≡ l = cc in ap (λ (x : Shelf). x.held) (sym same)

-- the bytes put into the chunk of a plan
pub filled_sent : (wants : Option Want) (w : Want) (p q : PlanView) (bytes : List ℕ) → Some w ≡ wants → length bytes ≡ w.count → q ≡ filled_with bytes p → AreSent wants p.sends q.sends
filled_sent wants w p q bytes is long fills = subst (λ (o : Option Want). AreSent o p.sends q.sends) is (bytes, long, ap (λ (x : PlanView). x.sends) fills)

-- no bytes are wanted, and none were put
pub none_sent : {D : Type 0} (view : D → DiskView) (c : ContentView D) (p : PlanView) → None ≡ p.wants → Fetches view c p p
none_sent view c p is = record {
  sends = subst (λ (o : Option Want). AreSent o p.sends p.sends) is refl;
  groups = λ honest. ap (λ (o : Option Want). fetched (groups_in c.journal.frames) o p) is;
}

-- lines that tell the groups of the frames
pub lines_are : (bodies : List (List ℕ)) (lines : List Shelf) → IsShelved bodies lines → lines ≡ shelf (groups_in bodies)
lines_are bodies lines shelved = by_content (content_of bodies) shelved where
  by_content : (found : Option (List Group)) → option_map shelf found ≡ Some lines → lines ≡ shelf (unwrap_or found [])
  by_content None h = absurd cc
  by_content (Some ks) h = let same : shelf ks ≡ lines = cc in sym same

-- The step

-- a plan with its bytes, and its prepared write
finished_by : (n : Control) (ks : List Group) (p : PlanView) (w : Write) (o : Option Want) → outcome_of (record { control = n; groups = ks }) (record { plan = fetched ks o p; write = w })
    ≡ record { node = record { control = control_after n p; groups = groups_with w ks }; records = p.records; sends = filled o ks p.sends; answer = p.answer }
finished_by n ks p w None = refl
finished_by n ks p w (Some x) = refl

groups_kept : {D : Type 0} (view : D → DiskView) (s : StoreView D) (c : ContentView D) (ks : List Group) (lines : List Shelf) (p : PlanView) (of : Piece) (w : Write) → lines ≡ shelf ks → CanKeep lines of p.keeps p.seals → IsWriteOf view s lines c p of w → groups_with w ks ≡ kept_at p.keeps ks of p.seals
groups_kept view s c ks lines p of writes.Nothing are can is = ap (λ (at : Option ℕ). kept_at at ks of p.seals) (sym is.1)
groups_kept view s c ks lines p of (writes.Records frame) are can is = ap (λ (at : Option ℕ). kept_at at ks of p.seals) (sym is.none)
groups_kept view s c ks lines p of (writes.Content piece) are can is =
    let can' : CanPut (shelf ks) of is.at p.seals = subst (λ (ls : List Shelf). CanPut ls of is.at p.seals) are (rw is.keeps at can) in
    ap (λ (e : Entry). with_entry e ks) (is.put.entry ∙ ap (λ (ls : List Shelf). entry_for ls of is.at p.seals) are)
    ∙ sym (kept_is ks of is.at p.seals can')
    ∙ ap (λ (at : Option ℕ). kept_at at ks of p.seals) (sym is.keeps)

pub made_step : {D : Type 0} (view : D → DiskView) (s : StoreView D) (c : ContentView D) (n : Control) (bodies : List (List ℕ)) (lines : List Shelf) (i : Input) (p : PlanView) (w : Write)
    → IsShelved bodies lines → planned n p ≡ plan n lines i → CanKeep lines (piece_of i) p.keeps p.seals → IsWriteOf view s lines c p (piece_of i) w
    → outcome_of (record { control = n; groups = groups_in bodies }) (record { plan = fetched (groups_in bodies) p.wants p; write = w }) ≡ step (record { control = n; groups = groups_in bodies }) i
made_step view s c n bodies lines i p w shelved made can is =
    let ks = groups_in bodies in
    let are = lines_are bodies lines shelved in
    finished_by n ks p w p.wants
    ∙ ap (λ (gs : List Group). record { node = record { control = control_after n p; groups = gs }; records = p.records; sends = filled p.wants ks p.sends; answer = p.answer }) (groups_kept view s c ks lines p (piece_of i) w are can is)
    ∙ ap (finished (record { control = n; groups = ks }) i) (made ∙ ap (λ (ls : List Shelf). plan n ls i) are)

-- the kept and the wanted bytes of the plan in the code
pub plan_keeps : (n : Control) (made : PlanView) (o : Plan) (lines : List Shelf) (of : Piece) → planned n made ≡ o → CanKeep lines of o.keeps o.seals → CanKeep lines of made.keeps made.seals
plan_keeps n made o lines of e can = subst (λ (q : Plan). CanKeep lines of q.keeps q.seals) (sym e) can

pub plan_wants : (n : Control) (made : PlanView) (o : Plan) (lines : List Shelf) → planned n made ≡ o → CanWant lines o.wants → CanWant lines made.wants
plan_wants n made o lines e can = subst (λ (q : Plan). CanWant lines q.wants) (sym e) can

-- a frame is written exactly where something durable changes
empty_is : (rs : List Record) → 0 < length rs → is_empty rs ≡ false
empty_is [] some = absurd (omega (arith, some))
empty_is (r ∷ rs) some = refl

pub made_writes : {D : Type 0} (view : D → DiskView) (s : StoreView D) (c : ContentView D) (n : Control) (lines : List Shelf) (i : Input) (p : PlanView) (w : Write)
    → planned n p ≡ plan n lines i → IsWriteOf view s lines c p (piece_of i) w → is_written w ≡ has_change (plan n lines i)
made_writes view s c n lines i p w made is = by_write w is ∙ ap has_change made where
  by_write : (w : Write) → IsWriteOf view s lines c p (piece_of i) w → is_written w ≡ has_change (planned n p)
  by_write writes.Nothing is = rw (is.0, is.1) refl
  by_write (writes.Records frame) is = rw (empty_is p.records is.some) refl
  by_write (writes.Content piece) is = rw (is.none, is.keeps) refl

-- the plan with any bytes is that of the control step
pub made_control : {D : Type 0} (view : D → DiskView) (s : StoreView D) (c : ContentView D) (n : Control) (lines : List Shelf) (i : Input) (p q : PlanView) (w : Write)
    → planned n p ≡ plan n lines i → q ≡ record p { sends = q.sends; room = q.room } → AreSent p.wants p.sends q.sends → IsWriteOf view s lines c p (piece_of i) w
    → DoesControlStep (plan n lines i) n (record { plan = q; write = w })
made_control view s c n lines i p q w made rest sent is = record {
  step = record {
    control = same ∙ ap (λ (o : Plan). o.node) made;
    answer = ap (λ (x : PlanView). x.answer) rest ∙ ap (λ (o : Plan). o.answer) made;
    sends = subst (λ (o : Plan). AreSent o.wants o.sends q.sends) made sent;
  };
  writes = made_writes view s c n lines i p w made is;
}
  where
    same : control_after n q ≡ control_after n p
    same = ap (control_after n) rest

-- the records of a step do not begin with a snapshot
no_snapshot : (rs : List Record) → AllByRecursion IsSoundRecord rs → begun_generation rs ≡ 0
no_snapshot [] sound = refl
no_snapshot (records.Snapshot g ∷ rs) sound = absurd sound.0
no_snapshot (r ∷ rs) sound = refl

pub made_plain : (n : Control) (lines : List Shelf) (i : Input) (p : PlanView) → planned n p ≡ plan n lines i → begun_generation p.records ≡ 0
made_plain n lines i p made = ap (λ (o : Plan). begun_generation o.records) made ∙ no_snapshot (plan n lines i).records (plan_writes n lines i).sound

-- The commit afterwards

pub made_commits : {D : Type 0} (view : D → DiskView) (v : NodeView) (s : StoreView D) (c c2 : ContentView D) (lines : List Shelf) (p q : PlanView) (of : Piece) (w : Write)
    → CanApply v p → begun_generation p.records ≡ 0 → q ≡ record p { sends = q.sends; room = q.room } → PutsNothing view c c2 → IsWriteOf view s lines c p of w → CanCommit view (kept_of v s c2 false) (record { plan = q; write = w })
made_commits view v s c c2 lines p q of w applies plain rest same is = record {
  applies = subst (CanApply v) (sym rest) (record { reached = applies.reached; records = applies.records; updates = applies.updates; room = applies.room });
  plain = ap begun_generation records ∙ plain;
  writes = by_write w is;
}
  where
    records : q.records ≡ p.records
    records = ap (λ (x : PlanView). x.records) rest

    by_write : (w : Write) → IsWriteOf view s lines c p of w → CanWrite view (kept_of v s c2 false) q w
    by_write writes.Nothing is = records ∙ is.0
    by_write (writes.Records frame) is = (is.spells ∙ ap records_bytes (sym records), is.spare, is.room)
    by_write (writes.Content piece) is =
        let can = is.put.can in
        let ready = can.prepared in (
          records ∙ is.none,
          record {
            prepared = record {
              place = subst (λ (ls : List Shelf). LooksUpLine ls piece.entry.group piece.place) (sym same.shelves) ready.place;
              fits = λ some. subst (λ (ls : List Shelf). fits (line_of piece.entry.group ls) (length ls) piece.entry.start (length piece.entry.bytes) piece.entry.seals ≡ true) (sym same.shelves) (ready.fits some);
              room = track_room piece.place piece.room c.rooms c2.rooms same.rooms ready.room;
              groups = subst (λ (ls : List Shelf). HasGroupRoom (length ls) c2.memory piece.place) (sym same.shelves) (group_room piece.place (length c.shelves) c.memory c2.memory same.memory ready.groups);
              spare = omega (arith, ready.spare, same.journal.spare);
            };
            adds = can.adds;
            says = can.says;
            room = record {
              room = omega (arith, can.room.room, same.journal.disk.room);
              calls = omega (arith, can.room.calls, same.journal.disk.calls);
              fits = λ sure full. can.room.fits (subst (λ (b : Bool). IsTrue b) same.journal.disk.goes_on.reliable sure) (omega (arith, full, same.journal.end));
            };
          },
        )
      where
        track_room : (place : Lookup) (room : ℕ) (old new : List ℕ) → ((i : ℕ) → get_or old i 0 ≤ get_or new i 0) → HasTrackRoom old room place → HasTrackRoom new room place
        track_room (Found i) room old new more h = omega (arith, more i, h)
        track_room (Free i) room old new more h = h

        group_room : (place : Lookup) (n old new : ℕ) → old ≤ new → HasGroupRoom n old place → HasGroupRoom n new place
        group_room (Found i) n old new more h = h
        group_room (Free i) n old new more h = omega (arith, more, h)

-- Full files

pub made_full : {D : Type 0} (view : D → DiskView) (v v2 : NodeView) (s s2 : StoreView D) (c c2 c3 : ContentView D) (i : Input) (p : PlanView) (w : Write)
    → planned v.control p ≡ plan v.control c.shelves i → KeepsStore view s s2 → c3.journal.end ≡ c.journal.end → IsWriteOf view s2 c.shelves c2 p (piece_of i) w
    → IsFullToWrite (kept_of v2 s2 c3 false) w ↔ IsFullAt (kept_of v s c false) i
made_full view v v2 s s2 c c2 c3 i p w made keeps end is = subst (λ (o : Plan). IsFullToWrite (kept_of v2 s2 c3 false) w ↔ IsFullByPlan s.current.end c.journal.end c.shelves i o) made (by_write w is) where
  by_records : (rs : List Record) (frame : List ℕ) → 0 < length rs → frame ≡ records_bytes rs → IsFullFor (length frame) s2.current ↔ IsFullWith s.current.end c.journal.end c.shelves i rs p.keeps p.seals
  by_records [] frame some spells = absurd (omega (arith, some))
  by_records (r ∷ rs) frame some spells =
      let long : length frame ≡ length (records_bytes (r ∷ rs)) = ap length spells in
      (λ h. omega (arith, h, long, keeps.current.end), λ h. omega (arith, h, long, keeps.current.end))

  by_write : (w : Write) → IsWriteOf view s2 c.shelves c2 p (piece_of i) w → IsFullToWrite (kept_of v2 s2 c3 false) w ↔ IsFullByPlan s.current.end c.journal.end c.shelves i (planned v.control p)
  by_write writes.Nothing is = rw (is.0, is.1) (λ h. h, λ h. h)
  by_write (writes.Records frame) is = by_records p.records frame is.some is.spells
  by_write (writes.Content piece) is =
      let long : length piece.body ≡ length (written (entry_for c.shelves (piece_of i) is.at p.seals)) = ap length (is.put.body ∙ ap written is.put.entry) in
      rw (is.none, is.keeps) (λ h. omega (arith, h, long, end), λ h. omega (arith, h, long, end))

-- no file is full where nothing is written
nothing_fits : (control content : ℕ) (lines : List Shelf) (i : Input) (rs : List Record) (keeps : Option ℕ) (closes : Bool) → rs ≡ [] → keeps ≡ None → IsFullWith control content lines i rs keeps closes → ⊥
nothing_fits control content lines i [] None closes none nowhere full = full
nothing_fits control content lines i [] (Some at) closes none nowhere full = absurd cc
nothing_fits control content lines i (r ∷ rs) keeps closes none nowhere full = absurd cc

-- no file is full for a step that wants bytes
pub wanting_fits : {D : Type 0} (k : KeptView D) (i : Input) (p : PlanView) → planned k.node.control p ≡ plan k.node.control k.content.shelves i → (p.wants ≡ None → ⊥) → IsFullAt k i → ⊥
wanting_fits k i p made wanting full = by_want p.wants refl where
  by_want : (w : Option Want) → p.wants ≡ w → ⊥
  by_want None none = wanting none
  by_want (Some w) some =
      let o = plan k.node.control k.content.shelves i in
      let alone = wants_alone k.node.control k.content.shelves i w (ap (λ (q : Plan). q.wants) (sym made) ∙ some) in
      nothing_fits k.store.current.end k.content.journal.end k.content.shelves i o.records o.keeps o.seals alone.0 alone.1 full

-- Calls in a row

pub puts_then : {D : Type 0} (view : D → DiskView) (a b c : ContentView D) → Law view → PutsNothing view a b → PutsNothing view b c → PutsNothing view a c
puts_then view a b c law first second = record {
  journal = OnlyReads-then view a.journal b.journal c.journal (λ h. law a.journal.disk h) first.journal second.journal;
  shelves = second.shelves ∙ first.shelves;
  rooms = λ i. omega (arith, first.rooms i, second.rooms i);
  memory = omega (arith, first.memory, second.memory);
}

pub none_then : {D : Type 0} (view : D → DiskView) (a b c : JournalView D) → NoneFailed view a b → NoneFailed view b c → NoneFailed view a c
none_then view a b c first second = record { closed = second.closed ∙ first.closed; no_fault = second.no_fault ∙ first.no_fault }

-- the lines still tell the frames
pub still_shelved : {D : Type 0} (view : D → DiskView) (c c2 : ContentView D) → PutsNothing view c c2 → (IsTrue (view c.journal.disk).honest → IsShelved c.journal.frames c.shelves) → IsTrue (view c2.journal.disk).honest → IsShelved c2.journal.frames c2.shelves
still_shelved view c c2 same shelved honest =
    let before = was_honest (view c.journal.disk) (view c2.journal.disk) same.journal.disk.goes_on honest in
    subst (λ (bodies : List (List ℕ)). IsShelved bodies c2.shelves) (sym (same.journal.frames before))
    (subst (λ (ls : List Shelf). IsShelved c.journal.frames ls) (sym same.shelves) (shelved before))
