-- The index beside its journal, as calls go on.
use Rattle.std.proofs.Common.{◌≡◌, ◌≢◌, ℕ, zero, suc, ◌≤◌, Bool, true, false, IsTrue, List, [], ◌∷◌, ◌++◌, length, take, drop, Option, Some, None, Result, Ok, Err, option_map, unwrap_or, IfSome, IfNone, MatchOption, get_or, flat_map, refl, sym, ap, subst, ◌∙◌, arith}
use Rattle.std.proofs.lemmas.List.{length-map, drop_all}
use Rattle.std.specs.Result.{IsErrOf}
use Rattle.oc_io.specs.DiskView.{DiskView}
use Rattle.oc_io.proofs.DiskMoments.{still_honest}
use Rattle.oc_journal.specs.JournalView.{JournalView}
use Rattle.oc_journal.specs.Promises.{OnlyReads, NoneFailed}
use Rattle.oc_journal.specs.Stopped.{frames_after}
use Rattle.oc_base.specs.Stops.{is_kept_new}
use Rattle.oc_base.specs.declared.shelf.Shelf.{Shelf}
use Rattle.oc_content.specs.declared.index.Index.{Index}
use Rattle.oc_content.specs.declared.track.Span.{Span}
use Rattle.oc_content.specs.declared.track.Track.{Track}
use Rattle.oc_content.specs.declared.spot.Spot.{Spot}
use Rattle.oc_base.specs.Shelves.{IsLineAt, line_of, held_of, IsHeldAt, IsShelf}
use Rattle.oc_base.specs.declared.group.Group.{Group}
use Rattle.oc_base.specs.Groups.{group_of, shelf, shelf_of, bytes_of, or_empty}
use Rattle.oc_content.specs.Entries.{Entry, entry_of}
use Rattle.oc_content.specs.ContentFile.{fits, taken, content_of, groups_in, bytes_in, with_entry, IsShelved, IsSameElsewhere, groups_after}
use Rattle.oc_content.specs.Indexes.{IsIndexOf, IsSized, AreTracked, OnlyReserves, paths, helds, bytes_at, IsTracked}
use Rattle.oc_content.specs.Founds.{IsRest, BeginsWithin, IsSpot}
use Rattle.oc_content.specs.ContentView.{IsIndexed, IsOpened, content_with}
use Rattle.oc_content.specs.Promises.{PutsNothing}
use Rattle.oc_content.proofs.Adding.{IsSized-good}
use Rattle.oc_content.proofs.Lines.{line_of-shelf, length-shelf}
use Rattle.oc_content.proofs.Meanings.{content_of-good, content_of-push, lines_of_good}
use Rattle.oc_content.specs.declared.errors.ReadError.{ReadError}
use Rattle.oc_content.specs.declared.errors.ReadError.TheVariants.{NoGroup, Disk as ReadDisk}
use Rattle.oc_content.proofs.Locating.{group_at, held_of-stands}
use Rattle.oc_content.proofs.Others.{with_entry-others}

-- the index is within the limits
pub IsIndexed-sized : {D : Type 0} (view : D → DiskView) (j : JournalView D) (x : Index) → IsIndexed view j x → IsSized x
IsIndexed-sized view j x is = IsSized-good is.bodies is.groups x (view j.disk).honest is.is

-- the lines of the index are a shelf
pub IsIndexed-shelf : {D : Type 0} (view : D → DiskView) (j : JournalView D) (x : Index) → IsIndexed view j x → IsShelf x.shelves.items
IsIndexed-shelf view j x is =
    let good = content_of-good is.bodies is.groups is.is.content in
    subst IsShelf (sym is.is.lines) (lines_of_good is.groups good, omega (arith, good.few, length-shelf is.groups))

-- over an honest disk the frames are good, and the groups are these
pub good_frames : {D : Type 0} (view : D → DiskView) (j : JournalView D) (x : Index) (is : IsIndexed view j x) → IsTrue (view j.disk).honest → content_of j.frames ≡ Some is.groups
good_frames view j x is honest = ap content_of (is.frames honest) ∙ is.is.content

-- the groups of the frames are these
pub groups_are : {D : Type 0} (view : D → DiskView) (j : JournalView D) (x : Index) (is : IsIndexed view j x) → IsTrue (view j.disk).honest → groups_in j.frames ≡ is.groups
groups_are view j x is honest = ap (λ (c : Option (List Group)). unwrap_or c []) (good_frames view j x is honest)

-- the lines tell the frames
pub shelved : {D : Type 0} (view : D → DiskView) (j : JournalView D) (x : Index) → IsIndexed view j x → IsTrue (view j.disk).honest → IsShelved j.frames x.shelves.items
shelved view j x is honest = ap (option_map shelf) (good_frames view j x is honest) ∙ ap Some (sym is.is.lines)

-- the length of a line is that of the bytes
held_is : (groups : List Group) (g : List ℕ) (n : ℕ) → held_of g (shelf groups) ≡ Some n → n ≡ length (bytes_of g groups)
held_is groups g n h = by_found (group_of g groups) refl where
  by_found : (found : Option Group) → group_of g groups ≡ found → n ≡ length (bytes_of g groups)
  by_found None e =
      let none : None ≡ Some n = sym (ap (option_map (λ s. s.held)) (line_of-shelf g groups ∙ ap (option_map shelf_of) e)) ∙ h in
      absurd cc
  by_found (Some k) e =
      let some : Some (length k.bytes) ≡ Some n = sym (ap (option_map (λ s. s.held)) (line_of-shelf g groups ∙ ap (option_map shelf_of) e)) ∙ h in
      let same : length k.bytes ≡ n = cc in
      sym same ∙ ap (λ (f : Option Group). length (or_empty g f).bytes) (sym e)

-- the number of bytes of a group is its length
pub held_bytes : {D : Type 0} (view : D → DiskView) (j : JournalView D) (x : Index) (g : List ℕ) (n : ℕ) → IsIndexed view j x → IsTrue (view j.disk).honest → held_of g x.shelves.items ≡ Some n → n ≡ length (bytes_in g j.frames)
held_bytes view j x g n is honest h =
    held_is is.groups g n (ap (held_of g) (sym is.is.lines) ∙ h) ∙ ap (λ (ks : List Group). length (bytes_of g ks)) (sym (groups_are view j x is honest))

-- a call that put nothing
pub IsIndexed-kept : {D : Type 0} (view : D → DiskView) (j k : JournalView D) (x y : Index) → IsIndexed view j x → (view k.disk).honest ≡ (view j.disk).honest → (IsTrue (view j.disk).honest → k.frames ≡ j.frames) → OnlyReserves x y → IsIndexed view k y
IsIndexed-kept view j k x y is honest frames keeps = record {
  bodies = is.bodies;
  groups = is.groups;
  is = record {
    content = is.is.content;
    lines = keeps.lines ∙ is.is.lines;
    rows = sym (length-map y.tracks.items (λ (t : Track). t.spans.items)) ∙ (ap length keeps.tracks.paths ∙ (length-map x.tracks.items (λ (t : Track). t.spans.items) ∙ (is.is.rows ∙ ap length (sym keeps.lines))));
    tracked = λ h. subst (λ (ps : List (List Span)). AreTracked is.bodies is.groups ps) (sym keeps.tracks.paths) (is.is.tracked (subst (λ (b : Bool). IsTrue b) honest h));
  };
  frames = λ h. let k_honest = subst (λ (b : Bool). IsTrue b) honest h in frames k_honest ∙ is.frames k_honest;
}

-- a call that left the index alone
pub IsIndexed-same : {D : Type 0} (view : D → DiskView) (j k : JournalView D) (x : Index) → IsIndexed view j x → (view k.disk).honest ≡ (view j.disk).honest → (IsTrue (view j.disk).honest → k.frames ≡ j.frames) → IsIndexed view k x
IsIndexed-same view j k x is honest frames =
    IsIndexed-kept view j k x x is honest frames (record { lines = refl; tracks = record { paths = refl; rooms = λ i. omega arith }; memory = omega arith })

-- the view of the content then
pub PutsNothing-by : {D : Type 0} (view : D → DiskView) (j k : JournalView D) (x y : Index) → OnlyReads view j k → OnlyReserves x y → PutsNothing view (content_with j x) (content_with k y)
PutsNothing-by view j k x y reads keeps = record {
  journal = reads;
  shelves = keeps.lines;
  rooms = keeps.tracks.rooms;
  memory = keeps.memory;
}

-- the effect of adding an entry on the index
abbrev pub Puts : List ℕ → Entry → ℕ → Index → Index → Type 0
Puts body e number x y = (bodies : List (List ℕ)) (groups : List Group) (honest : Bool) → IsIndexOf bodies groups x honest → (IsTrue honest → number ≡ length bodies) → IsIndexOf (bodies ++ body ∷ []) (with_entry e groups) y honest

-- an entry was added
pub IsIndexed-put : {D : Type 0} (view : D → DiskView) (j k : JournalView D) (x y : Index) (body : List ℕ) (e : Entry) (number : ℕ) → IsIndexed view j x → number ≡ length j.frames → (view k.disk).honest ≡ (view j.disk).honest → (IsTrue (view j.disk).honest → k.frames ≡ j.frames ++ body ∷ []) → Puts body e number x y → IsIndexed view k y
IsIndexed-put view j k x y body e number is count honest frames puts =
    let added = puts is.bodies is.groups (view j.disk).honest is.is (λ h. count ∙ ap length (is.frames h)) in
    record {
      bodies = is.bodies ++ body ∷ [];
      groups = with_entry e is.groups;
      is = subst (λ (b : Bool). IsIndexOf (is.bodies ++ body ∷ []) (with_entry e is.groups) y b) (sym honest) added;
      frames = λ h. let j_honest = subst (λ (b : Bool). IsTrue b) honest h in frames j_honest ∙ ap (λ (bs : List (List ℕ)). bs ++ body ∷ []) (is.frames j_honest);
    }

-- the content of the frames then
pub content_put : {D : Type 0} (view : D → DiskView) (j : JournalView D) (x y : Index) (body : List ℕ) (e : Entry) (number : ℕ) → IsIndexed view j x → number ≡ length j.frames → Puts body e number x y → IsTrue (view j.disk).honest → content_of (j.frames ++ body ∷ []) ≡ Some (with_entry e (groups_in j.frames))
content_put view j x y body e number is count puts honest =
    let added = puts is.bodies is.groups (view j.disk).honest is.is (λ h. count ∙ ap length (is.frames h)) in
    ap (λ (bs : List (List ℕ)). content_of (bs ++ body ∷ [])) (is.frames honest) ∙ (added.content ∙ ap (λ (ks : List Group). Some (with_entry e ks)) (sym (groups_are view j x is honest)))

-- groups of other names stay
pub others_stay : (frames : List (List ℕ)) (groups : List Group) (e : Entry) → content_of frames ≡ Some (with_entry e groups) → IsSameElsewhere e.group groups (groups_in frames)
others_stay frames groups e content = λ name other.
    ap (λ (c : Option (List Group)). group_of name (unwrap_or c [])) content ∙ with_entry-others e groups name other

-- the content after a put that was stopped
pub content_stopped : (calls image : ℕ) (frames : List (List ℕ)) (body : List ℕ) (groups : List Group) (e : Entry) (left : List (List ℕ)) → left ≡ frames_after calls image frames body → content_of frames ≡ Some groups → content_of (frames ++ body ∷ []) ≡ Some (with_entry e groups) → content_of left ≡ Some (groups_after calls image groups e)
content_stopped calls image frames body groups e left is old new = ap content_of is ∙ by_kept (is_kept_new calls image) refl where
  by_kept : (b : Bool) → is_kept_new calls image ≡ b → content_of (frames_after calls image frames body) ≡ Some (groups_after calls image groups e)
  by_kept true k = rw k new
  by_kept false k = rw k old

-- past the end there is nothing to read
pub read_nothing : (most start : ℕ) (bytes : List ℕ) → length bytes ≤ start → [] ≡ take most (drop start bytes)
read_nothing most start bytes past =
    let e : drop start bytes ≡ [] = drop_all start bytes past in
    sym (subst (λ (l : List ℕ). take most l ≡ []) (sym e) (none most)) where
      none : (n : ℕ) → take {A = ℕ} n [] ≡ []
      none zero = refl
      none (suc n) = refl

-- the byte that is found is within the first span
pub begins_rest : (bodies : List (List ℕ)) (k : Group) (start : ℕ) (spans : List Span) (skip : ℕ) → IsRest bodies k start spans skip → BeginsWithin bodies skip spans
begins_rest bodies k start spans skip rest =
    subst (λ (ss : List Span). BeginsWithin bodies skip ss) (sym rest.are) (omega (arith, rest.here))

-- the number of bytes of a group in the index is its length
pub held_some : {D : Type 0} (view : D → DiskView) (j : JournalView D) (x : Index) (g : List ℕ) (r : Option ℕ) → IsIndexed view j x → r ≡ held_of g x.shelves.items → IfSome r (λ n. IsTrue (view j.disk).honest → n ≡ length (bytes_in g j.frames))
held_some view j x g None is e = tt
held_some view j x g (Some n) is e = λ honest. held_bytes view j x g n is honest (sym e)

-- a spot in the index is one in the journal
abbrev pub Spots : Index → List ℕ → ℕ → Option Spot → Type 0
Spots x g start r = (bodies : List (List ℕ)) (groups : List Group) → IsIndexOf bodies groups x true → MatchOption r (¬ IsHeldAt g x.shelves.items start) (λ s. IsSpot bodies g start s)

spots_at : {D : Type 0} (view : D → DiskView) (j : JournalView D) (x : Index) (g : List ℕ) (start : ℕ) (r : Option Spot) → IsIndexed view j x → Spots x g start r → IsTrue (view j.disk).honest → MatchOption r (¬ IsHeldAt g x.shelves.items start) (λ s. IsSpot j.frames g start s)
spots_at view j x g start r is spots honest =
    subst (λ (bs : List (List ℕ)). MatchOption r (¬ IsHeldAt g x.shelves.items start) (λ s. IsSpot bs g start s)) (sym (is.frames honest)) (spots is.bodies is.groups (subst (λ (b : Bool). IsIndexOf is.bodies is.groups x b) honest is.is))

on_none : (r : Option Spot) (P : Type 0) (Q : Spot → Type 0) → MatchOption r P Q → IfNone r P
on_none None P Q m = m
on_none (Some s) P Q m = tt

on_some : (r : Option Spot) (P : Type 0) (Q : Spot → Type 0) → MatchOption r P Q → IfSome r Q
on_some None P Q m = tt
on_some (Some s) P Q m = m

pub spot_none : {D : Type 0} (view : D → DiskView) (j : JournalView D) (x : Index) (g : List ℕ) (start : ℕ) (r : Option Spot) → IsIndexed view j x → Spots x g start r → IsTrue (view j.disk).honest → IfNone r (¬ IsHeldAt g x.shelves.items start)
spot_none view j x g start r is spots honest =
    on_none r (¬ IsHeldAt g x.shelves.items start) (λ s. IsSpot j.frames g start s) (spots_at view j x g start r is spots honest)

pub spot_some : {D : Type 0} (view : D → DiskView) (j : JournalView D) (x : Index) (g : List ℕ) (start : ℕ) (r : Option Spot) → IsIndexed view j x → Spots x g start r → IsTrue (view j.disk).honest → IfSome r (λ s. IsSpot j.frames g start s)
spot_some view j x g start r is spots honest =
    on_some r (¬ IsHeldAt g x.shelves.items start) (λ s. IsSpot j.frames g start s) (spots_at view j x g start r is spots honest)

-- the result of the index for a byte at a place
abbrev pub Finds : Index → ℕ → ℕ → Option (List Span × ℕ) → Type 0
Finds x at start r = (bodies : List (List ℕ)) (k : Group) → IsTracked bodies k (get_or (paths x.tracks.items) at []) → length k.bytes ≡ get_or (helds x.shelves.items) at 0 → MatchOption r (length k.bytes ≤ start) (λ rest. IsRest bodies k start rest.0 rest.1)

-- the bytes of the group that is there
bytes_there : {D : Type 0} (view : D → DiskView) (j : JournalView D) (x : Index) (g : List ℕ) (k : Group) (is : IsIndexed view j x) → IsTrue (view j.disk).honest → group_of g is.groups ≡ Some k → bytes_in g j.frames ≡ k.bytes
bytes_there view j x g k is honest found =
    ap (bytes_of g) (groups_are view j x is honest) ∙ ap (λ (f : Option Group). (or_empty g f).bytes) found

-- a read past the end
pub read_past : {D : Type 0} (view : D → DiskView) (j : JournalView D) (x : Index) (g : List ℕ) (at start : ℕ) → IsIndexed view j x → IsLineAt x.shelves.items g at → Finds x at start None → IsTrue (view j.disk).honest → length (bytes_in g j.frames) ≤ start
read_past view j x g at start is stands finds honest =
    let there = group_at is.bodies is.groups x (view j.disk).honest g at is.is honest stands in
    omega (arith, finds is.bodies there.group there.tracked there.held, ap length (bytes_there view j x g there.group is honest there.found))

-- a read begins within a span
pub read_begins : {D : Type 0} (view : D → DiskView) (j : JournalView D) (x : Index) (g : List ℕ) (at start : ℕ) (spans : List Span) (skip : ℕ) → IsIndexed view j x → IsLineAt x.shelves.items g at → Finds x at start (Some (spans, skip)) → IsTrue (view j.disk).honest → BeginsWithin j.frames skip spans
read_begins view j x g at start spans skip is stands finds honest =
    let there = group_at is.bodies is.groups x (view j.disk).honest g at is.is honest stands in
    subst (λ (bs : List (List ℕ)). BeginsWithin bs skip spans) (sym (is.frames honest)) (begins_rest is.bodies there.group start spans skip (finds is.bodies there.group there.tracked there.held))

-- a read gives the bytes of the group
pub read_there : {D : Type 0} (view : D → DiskView) (j : JournalView D) (x : Index) (g : List ℕ) (at start : ℕ) (spans : List Span) (skip : ℕ) → IsIndexed view j x → IsLineAt x.shelves.items g at → Finds x at start (Some (spans, skip)) → IsTrue (view j.disk).honest → drop skip (flat_map (bytes_at j.frames) spans) ≡ drop start (bytes_in g j.frames)
read_there view j x g at start spans skip is stands finds honest =
    let there = group_at is.bodies is.groups x (view j.disk).honest g at is.is honest stands in
    let rest = finds is.bodies there.group there.tracked there.held in
    ap (λ (bs : List (List ℕ)). drop skip (flat_map (bytes_at bs) spans)) (is.frames honest) ∙ (sym rest.rest ∙ ap (drop start) (sym (bytes_there view j x g there.group is honest there.found)))

-- a journal that was only read, with its index
pub opened : {D : Type 0} (view : D → DiskView) (j k : JournalView D) (x : Index) → OnlyReads view j k → NoneFailed view j k → IsIndexed view k x → IsOpened view j (content_with k x)
opened view j k x reads none is = record {
  reads = reads;
  none_failed = none;
  shelved = λ honest. shelved view k x is (still_honest (view j.disk) (view k.disk) reads.disk.goes_on honest);
}

-- a success is no error
pub ok_is_no_error : (n : ℕ) (e : ReadError) → ¬ IsErrOf {T = ℕ} {E = ReadError} (Ok n) e
ok_is_no_error n e is = let f : Ok n ≡ Err e = is in absurd cc

-- a failed call on the disk is no absent group
pub disk_is_no_group : (r : Result ℕ ReadError) (e : ReadError) → r ≡ Err e → e ≡ ReadDisk → ¬ IsErrOf r NoGroup
disk_is_no_group r e is disk no_group =
    let f : r ≡ Err NoGroup = no_group in
    let same : e ≡ NoGroup = cc in
    let other : ReadDisk ≡ NoGroup = sym disk ∙ same in
    absurd cc

-- a group that is there is not absent
pub stands_there : (ss : List Shelf) (g : List ℕ) (at : ℕ) → IsLineAt ss g at → held_of g ss ≢ None
stands_there ss g at stands none =
    let some : Some (get_or (helds ss) at 0) ≡ None = sym (held_of-stands ss g at stands) ∙ none in
    absurd cc

-- the content after a frame whose entry fits
pub content_next : {D : Type 0} (view : D → DiskView) (j : JournalView D) (x : Index) (body : List ℕ) (e : Entry) → IsIndexed view j x → IsTrue (view j.disk).honest → entry_of body ≡ Some e → fits (line_of e.group x.shelves.items) (length x.shelves.items) e.start (length e.bytes) e.seals ≡ true → content_of (j.frames ++ body ∷ []) ≡ Some (with_entry e (groups_in j.frames))
content_next view j x body e is honest says fit =
    let groups = is.groups in
    let there : fits (line_of e.group (shelf groups)) (length groups) e.start (length e.bytes) e.seals ≡ true =
    subst (λ (n : ℕ). fits (line_of e.group (shelf groups)) n e.start (length e.bytes) e.seals ≡ true) (length-shelf groups) (subst (λ (ss : List Shelf). fits (line_of e.group ss) (length ss) e.start (length e.bytes) e.seals ≡ true) is.is.lines fit) in
    content_of-push j.frames groups body (good_frames view j x is honest) ∙ (ap (taken groups) says ∙ (took groups e there ∙ ap (λ (ks : List Group). Some (with_entry e ks)) (sym (groups_are view j x is honest))))
  where
    took : (ks : List Group) (a : Entry) → fits (line_of a.group (shelf ks)) (length ks) a.start (length a.bytes) a.seals ≡ true → taken ks (Some a) ≡ Some (with_entry a ks)
    took ks a t = rw t
