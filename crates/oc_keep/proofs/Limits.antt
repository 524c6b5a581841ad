-- The pieces that a step keeps of an input are within the limits of the content log.
use Rattle.std.proofs.Common.{◌≡◌, ℕ, ◌+◌, ◌-◌, ◌≤◌, Bool, true, false, not, ◌&&◌, ◌||◌, ◌==◌, nat_lt, nat_le, if◌then◌else◌, Option, Some, None, is_some, option_map, List, [], ◌∷◌, ◌++◌, length, drop, refl, sym, ap, subst, ◌∙◌, arith}
use Rattle.std.proofs.lemmas.Bool.{cond_both}
use Rattle.std.proofs.lemmas.Bool.Decides.{nat_tests}
use Rattle.std.proofs.lemmas.List.{length-drop}
use Rattle.oc_base.specs.declared.group.Group.{Group}
use Rattle.oc_base.specs.declared.limits.TheConstants.{MAX_GROUPS, MAX_GROUP_BYTES, MAX_PUBLISH_BYTES}
use Rattle.oc_base.specs.declared.shelf.Shelf.{Shelf}
use Rattle.oc_base.specs.Groups.{group_of, group_or_empty, or_empty, shelf, shelf_of, with_group}
use Rattle.oc_base.specs.Named.{same_name}
use Rattle.oc_base.specs.Names.{IsGroupName}
use Rattle.oc_base.specs.Shelves.{line_of, AreLines, IsLine, IsShelf}
use Rattle.oc_base.proofs.NameOrder.{names_equal}
use Rattle.oc_content.specs.ContentFile.{with_entry}
use Rattle.oc_content.specs.declared.group_state.GroupState.{GroupState}
use Rattle.oc_content.specs.Putting.{group_state, group_state_in, fault_of}
use Rattle.oc_content.proofs.Lines.{line_of-shelf}
use Rattle.oc_model.specs.declared.answer.Answer.{Answer}
use Rattle.oc_model.specs.declared.answer.Answer.TheVariants as words
use Rattle.oc_model.specs.declared.input.Input.{Input}
use Rattle.oc_model.specs.declared.input.Input.TheVariants as inputs
use Rattle.oc_model.specs.declared.message.Body.{Body}
use Rattle.oc_model.specs.declared.message.Body.TheVariants as bodies
use Rattle.oc_model.specs.declared.mode.Mode.{Mode}
use Rattle.oc_model.specs.declared.mode.Mode.TheVariants as modes
use Rattle.oc_model.specs.Content.{unless, keeps, grows, publish_to, seal_line, answers_fetch, adds_seal, adds, grown_line, asks_on, chunk_to}
use Rattle.oc_model.specs.Lawful.{IsBody, IsInput}
use Rattle.oc_model.specs.Node.{Control}
use Rattle.oc_model.specs.Plan.{Plan, answers, begun, ignored}
use Rattle.oc_model.specs.Shelves.{line_or_none, line_at, with_line, limit, next_behind}
use Rattle.oc_model.specs.Step.{Piece, kept_at, piece_in, piece_of, plan, received}
use Rattle.oc_laws_step.proofs.Adopts.{goes_asked}
use Rattle.oc_laws_step.proofs.Asks.{goes_took_yes, goes_took_no, goes_unreachable, goes_relocate}
use Rattle.oc_laws_step.proofs.Checks.{goes_checks, goes_tick, goes_checked_in, goes_took_ack, goes_took_rejoin}
use Rattle.oc_laws_step.proofs.Goes.{Goes, either}
use Rattle.oc_laws_step.proofs.Looks.{goes_looked, goes_sees}
use Rattle.oc_laws_step.proofs.Ranges.{IfFound}
use Rattle.oc_laws_step.proofs.Serves.{goes_client, goes_measured}
use Rattle.oc_laws_step.proofs.Steps.{goes_pulled}
use Rattle.oc_keep.specs.Puts.{entry_for, CanPut, CanKeep}

-- Tests

-- a property of the chosen one of two plans
either_if : (b : Bool) (P : Plan → Type 0) (o q : Plan) → (b ≡ true → P o) → (b ≡ false → P q) → P (if b then o else q)
either_if true P o q h k = h refl
either_if false P o q h k = k refl

-- a seal that is added twice is added once
seal_again : (a b c : Bool) → (a && b && c && b && c) ≡ (a && b && c)
seal_again true true true = refl
seal_again true true false = refl
seal_again true false c = refl
seal_again false b c = refl

-- the parts of a limit that is not passed
limit_free : (a b : Bool) → (if a then Some words.Groups else if b then Some words.TooLong else None) ≡ None → (a ≡ false) × (b ≡ false)
limit_free true b h = absurd cc
limit_free false true h = absurd cc
limit_free false false h = (refl, refl)

-- a piece that passes four tests has no fault
no_fault : (s : GroupState) (start count : ℕ) → nat_lt s.held start ≡ false → (s.sealed && nat_lt s.held (start + count)) ≡ false → s.one_too_many ≡ false → nat_lt MAX_GROUP_BYTES (start + count) ≡ false → fault_of s start count ≡ None
no_fault s start count gap shut many long = rw (gap, shut, many, long) refl

-- A group by its line

held_is : (g : List ℕ) (line : Option Shelf) (n : ℕ) → (group_state line n).held ≡ (line_or_none g line).held
held_is g None n = refl
held_is g (Some l) n = refl

sealed_is : (g : List ℕ) (line : Option Shelf) (n : ℕ) → (group_state line n).sealed ≡ (line_or_none g line).sealed
sealed_is g None n = refl
sealed_is g (Some l) n = refl

many_is : (line : Option Shelf) (n : ℕ) → (group_state line n).one_too_many ≡ (not (is_some line) && nat_le MAX_GROUPS n)
many_is None n = refl
many_is (Some l) n = refl

-- the line of a name has that name
line_named : (g : List ℕ) (ls : List Shelf) → (line_at g ls).group ≡ g
line_named g [] = refl
line_named g (l ∷ ls) = by_test (line_named g ls) (same_name g l.group) refl where
  by_test : (line_at g ls).group ≡ g → (b : Bool) → same_name g l.group ≡ b → (line_or_none g (if b then Some l else line_of g ls)).group ≡ g
  by_test rest true e = sym (names_equal g l.group e)
  by_test rest false e = rest

-- a line that is found is within the limit
line_found : (g : List ℕ) (ls : List Shelf) → AreLines ls → IfFound IsLine (line_of g ls)
line_found g [] all = tt
line_found g (l ∷ ls) all = cond_both (same_name g l.group) (Some l) (line_of g ls) (IfFound IsLine) (λ _. all.0) (λ _. line_found g ls all.2)

short_line : (line : Option Shelf) (n : ℕ) → IfFound IsLine line → (group_state line n).held ≤ MAX_GROUP_BYTES
short_line None n ok = omega arith
short_line (Some l) n ok = ok.1

-- Publish and seal

module _ (ls : List Shelf) (g bytes : List ℕ) (named : IsGroupName g) (few : length bytes ≤ MAX_PUBLISH_BYTES) (ok : AreLines ls) where
  -- the line of the group, and the statement to prove
  abbrev the_line : Shelf
  the_line = line_at g ls

  abbrev Fits : Plan → Type 0
  Fits q = CanKeep ls (record { group = g; bytes = bytes }) q.keeps q.seals

  held_same : (group_state_in ls g).held ≡ the_line.held
  held_same = held_is g (line_of g ls) (length ls)

  sealed_same : (group_state_in ls g).sealed ≡ the_line.sealed
  sealed_same = sealed_is g (line_of g ls) (length ls)

  held_short : (group_state_in ls g).held ≤ MAX_GROUP_BYTES
  held_short = short_line (line_of g ls) (length ls) (line_found g ls ok)

  -- a piece within the limits is not refused
  within_limits : (at : ℕ) → nat_lt the_line.held at ≡ false → (the_line.sealed && nat_lt the_line.held (at + length bytes)) ≡ false → limit ls g (at + length bytes) ≡ None → fault_of (group_state_in ls g) at (length bytes) ≡ None
  within_limits at gap shut free =
      let parts = limit_free (not (is_some (line_of g ls)) && nat_le MAX_GROUPS (length ls)) (nat_lt MAX_GROUP_BYTES (at + length bytes)) free in
      no_fault (group_state_in ls g) at (length bytes)
      (ap (λ (h : ℕ). nat_lt h at) held_same ∙ gap)
      (ap (λ (h : ℕ). (group_state_in ls g).sealed && nat_lt h (at + length bytes)) held_same ∙ ap (λ (b : Bool). b && nat_lt the_line.held (at + length bytes)) sealed_same ∙ shut)
      (many_is (line_of g ls) (length ls) ∙ parts.0) parts.1

  not_before : (n : ℕ) → nat_lt n n ≡ false
  not_before n = grind (arith, nat_tests)

  -- a publish that grows its group adds something
  publish_adds : (b : Bool) (n held : ℕ) → (b || not (n == 0)) ≡ true → (b || nat_lt 0 (n - (held - held)) || false) ≡ true
  publish_adds true n held h = refl
  publish_adds false n held h = grind (arith, nat_tests)

  publish_fits : the_line.sealed ≡ false → limit ls g (the_line.held + length bytes) ≡ None → grows ls g (length bytes) ≡ true → CanPut ls (record { group = g; bytes = bytes }) the_line.held false
  publish_fits is_open free more = record {
    named = named;
    few = few;
    short = held_short;
    free = within_limits the_line.held (not_before the_line.held) (rw is_open refl) free;
    adds =
        rw (length-drop ((group_state_in ls g).held - the_line.held) bytes)
        (subst (λ (h : ℕ). (not (is_some (line_of g ls)) || nat_lt 0 (length bytes - (h - the_line.held)) || false) ≡ true) (sym held_same)
        (publish_adds (not (is_some (line_of g ls))) (length bytes) the_line.held more));
    seals = refl;
  }

  unless_fits : (a : Option Answer) (o q : Plan) → Fits (answers o words.Ok) → (a ≡ None → Fits q) → Fits (unless a o q)
  unless_fits None o q h k = k refl
  unless_fits (Some a) o q h k = h

  publish_keeps : (o : Plan) → o.keeps ≡ None → Fits (publish_to o ls the_line (length bytes))
  publish_keeps o none =
      let nothing : Fits o = rw none tt in
      either_if the_line.sealed Fits (answers o words.Sealed) _ (λ _. nothing) (λ is_open.
      unless_fits (limit ls the_line.group (the_line.held + length bytes)) o _ nothing (λ free.
      either_if (grows ls the_line.group (length bytes)) Fits (keeps o the_line.held false) o (λ more.
      publish_fits is_open
      (subst (λ (name : List ℕ). limit ls name (the_line.held + length bytes) ≡ None) (line_named g ls) free)
      (subst (λ (name : List ℕ). grows ls name (length bytes) ≡ true) (line_named g ls) more)) (λ _. nothing)))

  -- Chunks

  -- a chunk that adds something adds it past the held bytes
  chunk_adds : (b shut : Bool) (n held start : ℕ) → nat_lt held start ≡ false → (b || nat_lt held (start + n) || shut) ≡ true → (b || nat_lt 0 (n - (held - start)) || shut) ≡ true
  chunk_adds true shut n held start gap h = refl
  chunk_adds false true n held start gap h = or_true (nat_lt 0 (n - (held - start)))
    where
      or_true : (a : Bool) → (a || true) ≡ true
      or_true true = refl
      or_true false = refl
  chunk_adds false false n held start gap h = grind (arith, nat_tests)

  chunk_fits : (start : ℕ) (last : Bool) → nat_lt the_line.held start ≡ false → (the_line.sealed && nat_lt the_line.held (start + length bytes)) ≡ false → limit ls g (start + length bytes) ≡ None → (not (is_some (line_of g ls)) || nat_lt the_line.held (start + length bytes) || adds_seal the_line (start + length bytes) last) ≡ true → CanPut ls (record { group = g; bytes = bytes }) start (adds_seal the_line (start + length bytes) last)
  chunk_fits start last gap shut free more =
      let seals : (adds_seal the_line (start + length bytes) last && not (group_state_in ls g).sealed && nat_le (group_state_in ls g).held (start + length bytes)) ≡ adds_seal the_line (start + length bytes) last =
      rw (held_same, sealed_same) (seal_again last (not the_line.sealed) (nat_le the_line.held (start + length bytes))) in
      record {
        named = named;
        few = few;
        short = held_short;
        free = within_limits start gap shut free;
        adds =
            rw (seals, length-drop ((group_state_in ls g).held - start) bytes)
            (subst (λ (h : ℕ). (not (is_some (line_of g ls)) || nat_lt 0 (length bytes - (h - start)) || adds_seal the_line (start + length bytes) last) ≡ true) (sym held_same)
            (chunk_adds (not (is_some (line_of g ls))) (adds_seal the_line (start + length bytes) last) (length bytes) the_line.held start gap more));
        seals = seals;
      }

  asks_fits : (m : Mode) (p : ℕ) (shelf : List Shelf) (q : Plan) → Fits q → Fits (asks_on m p shelf q)
  asks_fits modes.Idle p shelf q h = h
  asks_fits (modes.Asking r) p shelf q h = h
  asks_fits (modes.Joined r) p shelf q h = either (r == p) Fits _ q h h
  asks_fits modes.Acting p shelf q h = h

  chunk_keeps : (o : Plan) (p start : ℕ) (last : Bool) → o.keeps ≡ None → Fits (chunk_to o ls p the_line start (start + length bytes) last)
  chunk_keeps o p start last none =
      let nothing : Fits o = rw none tt in
      let end = start + length bytes in
      either_if (nat_lt the_line.held start) Fits (answers o words.Gap) _ (λ _. nothing) (λ gap.
      either_if (the_line.sealed && nat_lt the_line.held end) Fits (answers o words.Sealed) _ (λ _. nothing) (λ shut.
      unless_fits (limit ls the_line.group end) o _ nothing (λ free.
      either_if (adds ls the_line end last) Fits _ (ignored o) (λ more.
      asks_fits o.node.kept.mode p (with_line (grown_line the_line end last) ls) (keeps o start (adds_seal the_line end last))
      (chunk_fits start last gap shut
      (subst (λ (name : List ℕ). limit ls name end ≡ None) (line_named g ls) free)
      (subst (λ (name : List ℕ). (not (is_some (line_of name ls)) || nat_lt the_line.held end || adds_seal the_line end last) ≡ true) (line_named g ls) more))) (λ _. nothing))))

-- a seal closes a held group
seal_fits : (ls : List Shelf) (g : List ℕ) (l : Shelf) → IsGroupName g → line_of g ls ≡ Some l → l.sealed ≡ false → l.held ≤ MAX_GROUP_BYTES → CanPut ls (record { group = g; bytes = [] }) l.held true
seal_fits ls g l named there is_open short =
    let state_is : group_state_in ls g ≡ group_state (Some l) (length ls) = ap (λ (o : Option Shelf). group_state o (length ls)) there in
    let short' : nat_lt MAX_GROUP_BYTES (l.held + 0) ≡ false = not_above l.held short in
    let seals : (not l.sealed && nat_le l.held (l.held + 0)) ≡ true = rw is_open (grind (arith, nat_tests)) in
    let seals' : (entry_for ls (record { group = g; bytes = [] }) l.held true).seals ≡ true = rw state_is seals in
    record {
      named = named;
      few = omega arith;
      short = rw state_is short;
      free = rw state_is (no_fault (group_state (Some l) (length ls)) l.held 0 (grind (arith, nat_tests)) (rw is_open refl) refl short');
      adds = rw seals' (or_true (not (is_some (line_of g ls)) || nat_lt 0 (length (drop ((group_state_in ls g).held - l.held) []))));
      seals = seals';
    }
  where
    or_true : (a : Bool) → (a || true) ≡ true
    or_true true = refl
    or_true false = refl

    not_above : (n : ℕ) → n ≤ MAX_GROUP_BYTES → nat_lt MAX_GROUP_BYTES (n + 0) ≡ false
    not_above n h = grind (arith, nat_tests)

seal_keeps : (ls : List Shelf) (g : List ℕ) (o : Plan) (l : Option Shelf) → IsGroupName g → o.keeps ≡ None → line_of g ls ≡ l → IfFound IsLine l → CanKeep ls (record { group = g; bytes = [] }) (seal_line o l).keeps (seal_line o l).seals
seal_keeps ls g o None named none there ok = rw none tt
seal_keeps ls g o (Some l) named none there ok =
    either_if l.sealed (λ (q : Plan). CanKeep ls (record { group = g; bytes = [] }) q.keeps q.seals) (ignored o) (keeps o l.held true)
    (λ _. rw none tt) (λ is_open. seal_fits ls g l named there is_open ok.1)

-- The rules

-- every other rule keeps no piece
nothing_kept : (ls : List Shelf) (p : Piece) (e k : ℕ) (n : Control) (q : Plan) → Goes e k (begun n) q → CanKeep ls p q.keeps q.seals
nothing_kept ls p e k n q h = rw h.by.keeps tt

fetch_keeps : (ls have : List Shelf) (piece : Piece) (n : Control) (p : ℕ) (l : Option Shelf) → CanKeep ls piece (answers_fetch (begun n) p have l).keeps (answers_fetch (begun n) p have l).seals
fetch_keeps ls have piece n p None = tt
fetch_keeps ls have piece n p (Some l) = tt

abbrev none : Piece
none = record { group = []; bytes = [] }

received_fits : (nodes : ℕ) (n : Control) (ls : List Shelf) (p : ℕ) (b : Body) → IsBody nodes b → AreLines ls → CanKeep ls (piece_in b) (received (begun n) ls p b).keeps (received (begun n) ls p b).seals
received_fits nodes n ls p bodies.Look body ok = nothing_kept ls none 0 0 n _ (goes_looked (begun n) p)
received_fits nodes n ls p (bodies.LookIs is_in parent rate children) body ok = nothing_kept ls none 0 2 n _ (goes_sees (begun n) p (record { in_tree = is_in; parent = parent; rate = rate; children = children }))
received_fits nodes n ls p (bodies.Ask seq rank) body ok = nothing_kept ls none 1 1 n _ (goes_asked (begun n) p seq rank)
received_fits nodes n ls p (bodies.Yes seq rank ancestors) body ok = nothing_kept ls none 0 2 n _ (goes_took_yes (begun n) p seq rank ancestors)
received_fits nodes n ls p (bodies.No seq why) body ok = nothing_kept ls none 0 3 n _ (goes_took_no (begun n) p seq why)
received_fits nodes n ls p (bodies.CheckIn seq upto rate number clients certs) body ok = nothing_kept ls none (length certs + 1) 0 n _ (goes_checked_in (begun n) p seq upto rate number clients certs)
received_fits nodes n ls p (bodies.CheckAck seq upto rank ancestors) body ok = nothing_kept ls none 0 3 n _ (goes_took_ack (begun n) p seq upto rank ancestors)
received_fits nodes n ls p (bodies.Rejoin seq) body ok = nothing_kept ls none 0 1 n _ (goes_took_rejoin (begun n) p seq)
received_fits nodes n ls p (bodies.Fetch have) body ok = fetch_keeps ls have none n p (next_behind n.chunk have ls)
received_fits nodes n ls p (bodies.Chunk g start bytes last) body ok =
    either (n.me == 1) (λ (q : Plan). CanKeep ls (record { group = g; bytes = bytes }) q.keeps q.seals) (ignored (begun n)) (chunk_to (begun n) ls p (line_at g ls) start (start + length bytes) last)
    tt (chunk_keeps ls g bytes body.0 (omega (arith, body.2)) ok (begun n) p start last refl)

-- a piece that a step keeps can be put
pub keeps_fit : (nodes : ℕ) (n : Control) (ls : List Shelf) (i : Input) → IsInput nodes n.me i → IsShelf ls → CanKeep ls (piece_of i) (plan n ls i).keeps (plan n ls i).seals
keeps_fit nodes n ls (inputs.Tick t) fair ok = nothing_kept ls none (length n.kept.table) 2 n _ (goes_tick (begun n) ls t)
keeps_fit nodes n ls inputs.CheckNow fair ok = nothing_kept ls none 0 2 n _ (goes_checks (begun n))
keeps_fit nodes n ls (inputs.Relocate p) fair ok = nothing_kept ls none 0 1 n _ (goes_relocate (begun n) p)
keeps_fit nodes n ls (inputs.Unreachable p) fair ok = nothing_kept ls none 0 3 n _ (goes_unreachable (begun n) p)
keeps_fit nodes n ls (inputs.Pull p) fair ok = nothing_kept ls none 0 0 n _ (goes_pulled (begun n) ls p)
keeps_fit nodes n ls (inputs.Measured p rate hops) fair ok = nothing_kept ls none 0 1 n _ (goes_measured (begun n) p rate hops)
keeps_fit nodes n ls (inputs.Publish g bytes) fair ok =
    either (n.me == 1) (λ (q : Plan). CanKeep ls (record { group = g; bytes = bytes }) q.keeps q.seals) (publish_to (begun n) ls (line_at g ls) (length bytes)) (answers (begun n) words.NotSource)
    (publish_keeps ls g bytes fair.0 fair.1 ok.0 (begun n) refl) tt
keeps_fit nodes n ls (inputs.Seal g) fair ok =
    either (n.me == 1) (λ (q : Plan). CanKeep ls (record { group = g; bytes = [] }) q.keeps q.seals) (seal_line (begun n) (line_of g ls)) (answers (begun n) words.NotSource)
    (seal_keeps ls g (begun n) (line_of g ls) fair refl refl (line_found g ls ok.0)) tt
keeps_fit nodes n ls (inputs.Client area start g) fair ok = nothing_kept ls none 0 0 n _ (goes_client (begun n) ls area start g)
keeps_fit nodes n ls (inputs.Delivered m) fair ok = received_fits nodes n ls m.from m.body fair.0.body ok.0

-- The groups of a step are those with the put piece

group_named : (g : List ℕ) (ks : List Group) → (group_or_empty g ks).name ≡ g
group_named g [] = refl
group_named g (k ∷ ks) = by_test (group_named g ks) (same_name g k.name) refl where
  by_test : (group_or_empty g ks).name ≡ g → (b : Bool) → same_name g k.name ≡ b → (or_empty g (if b then Some k else group_of g ks)).name ≡ g
  by_test rest true e = sym (names_equal g k.name e)
  by_test rest false e = rest

held_bytes : (g : List ℕ) (ks : List Group) → (group_state_in (shelf ks) g).held ≡ length (group_or_empty g ks).bytes
held_bytes g ks = ap (λ (o : Option Shelf). (group_state o (length (shelf ks))).held) (line_of-shelf g ks) ∙ by_group (group_of g ks)
  where
    by_group : (o : Option Group) → (group_state (option_map shelf_of o) (length (shelf ks))).held ≡ length (or_empty g o).bytes
    by_group None = refl
    by_group (Some k) = refl

pub kept_is : (ks : List Group) (p : Piece) (at : ℕ) (closes : Bool) → CanPut (shelf ks) p at closes → kept_at (Some at) ks p closes ≡ with_entry (entry_for (shelf ks) p at closes) ks
kept_is ks p at closes can =
    let k = group_or_empty p.group ks in
    let name : k.name ≡ p.group = group_named p.group ks in
    let held : (group_state_in (shelf ks) p.group).held ≡ length k.bytes = held_bytes p.group ks in
    ap (λ (j : Group). with_group j ks)
    (ap (λ (x : List ℕ). record { name = x; bytes = k.bytes ++ drop (length k.bytes - at) p.bytes; sealed = k.sealed || closes }) name
    ∙ ap (λ (n : ℕ). record { name = p.group; bytes = k.bytes ++ drop (n - at) p.bytes; sealed = k.sealed || closes }) (sym held)
    ∙ ap (λ (b : Bool). record { name = p.group; bytes = k.bytes ++ drop ((group_state_in (shelf ks) p.group).held - at) p.bytes; sealed = k.sealed || b }) (sym can.seals))
