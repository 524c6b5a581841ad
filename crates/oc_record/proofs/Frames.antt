-- Kept content changes the groups, a record changes a durable part, and a joined node's log takes its new certificates.
use Rattle.std.proofs.Common.{◌≡◌, ◌↔◌, ℕ, ◌+◌, ◌-◌, ◌<◌, ◌≤◌, zero, suc, Bool, true, false, not, ◌&&◌, ◌||◌, ◌==◌, nat_lt, nat_le, if◌then◌else◌, Option, Some, None, is_some, option_map, List, [], ◌∷◌, ◌++◌, length, drop, ◌⊎◌, inl, inr, refl, ap, sym, subst, ◌∙◌, arith, true≢false, ltb-true, length-append, length-drop}
use Rattle.std.proofs.lemmas.Bool.{and_parts, ltb-false}
use Rattle.oc_base.specs.declared.cert.Cert.{Cert}
use Rattle.oc_base.specs.declared.group.Group.{Group}
use Rattle.oc_base.specs.declared.shelf.Shelf.{Shelf}
use Rattle.oc_base.specs.Groups.{group_of, group_or_empty, or_empty, with_group, shelf_of, shelf}
use Rattle.oc_base.specs.Shelves.{line_of}
use Rattle.oc_model.specs.declared.answer.Answer.{Answer}
use Rattle.oc_model.specs.declared.answer.Answer.TheVariants as words
use Rattle.oc_model.specs.declared.input.Input.{Input}
use Rattle.oc_model.specs.declared.input.Input.TheVariants as inputs
use Rattle.oc_model.specs.declared.message.Body.{Body}
use Rattle.oc_model.specs.declared.message.Body.TheVariants as bodies
use Rattle.oc_model.specs.declared.message.Message.{Message}
use Rattle.oc_model.specs.declared.mode.Mode.{Mode}
use Rattle.oc_model.specs.declared.mode.Mode.TheVariants as modes
use Rattle.oc_model.specs.Content.{unless, keeps, grows, publish_to, published, seal_line, sealed_at, answers_fetch, adds, adds_seal, grown_line, asks_on, keeps_chunk, chunk_to, took_chunk}
use Rattle.oc_model.specs.Node.{Durable, Node}
use Rattle.oc_model.specs.Plan.{Plan, begun, answers, ignored}
use Rattle.oc_model.specs.Shelves.{line_at, with_line, limit, next_behind}
use Rattle.oc_model.specs.Step.{piece_of, grown, kept_at, plan, received, step}
use Rattle.oc_model.proofs.Groups.{group_of-with_group_same, group_or_empty-name}
use Rattle.oc_model.proofs.Shelves.{line_of-shelf, line_at-shelf, is_some-shelf}
use Rattle.oc_laws_step.proofs.Goes.{either, either_by}
use Rattle.oc_model.specs.declared.mode.Mode.TheVariants.{Idle, Asking, Joined, Acting}
use Rattle.oc_model.specs.declared.record.Record.{Record}
use Rattle.oc_model.specs.NextWorld.{writes as writes_frame}
use Rattle.oc_model.specs.Lawful.{IsInput}
use Rattle.oc_model.specs.Records.{folded}
use Rattle.oc_base.specs.Lawful.{IsNode}
use Rattle.oc_record.specs.SeeksNoPlace.{NoDescent, SeeksNoPlace}
use Rattle.oc_record.specs.Quash.{IsQuashed}
use Rattle.oc_laws_step.specs.Sound.{IsSoundAs, IsSound}
use Rattle.oc_laws_step.proofs.Adopts.{goes_asked}
use Rattle.oc_laws_step.proofs.Asks.{goes_took_yes, goes_took_no, goes_unreachable, goes_relocate}
use Rattle.oc_laws_step.proofs.Checks.{goes_checks, goes_tick, goes_checked_in, goes_took_ack, goes_took_rejoin}
use Rattle.oc_laws_step.proofs.Looks.{goes_looked, goes_sees}
use Rattle.oc_record.proofs.Moves.{Left, Moved, still, left, joined, stays, tail_none}
use Rattle.oc_record.proofs.Moving.{moves}
use Rattle.oc_laws_step.proofs.Serves.{goes_client, goes_measured}
use Rattle.oc_laws_step.proofs.Steps.{writes, goes_pulled}

-- Groups

abbrev grown_of : List ℕ → List Group → ℕ → List ℕ → Bool → Group
grown_of g ks at bytes closes = grown (group_or_empty g ks) at bytes closes

-- a part is new: the group, a byte or the seal
abbrev IsNew : List ℕ → List Group → ℕ → List ℕ → Bool → Type 0
IsNew g ks at bytes closes =
    (group_of g ks ≡ None) ⊎ ((length (group_or_empty g ks).bytes < length (grown_of g ks at bytes closes).bytes) ⊎ (((group_or_empty g ks).sealed ≡ false) × (closes ≡ true)))

-- new bytes change the groups
kept_other : (g : List ℕ) (ks : List Group) (at : ℕ) (bytes : List ℕ) (closes : Bool) → IsNew g ks at bytes closes → with_group (grown_of g ks at bytes closes) ks ≡ ks → ⊥
kept_other g ks at bytes closes new is = by_new new where
  j : Group
  j = grown_of g ks at bytes closes

  found : group_of g ks ≡ Some j
  found = subst (λ (name : List ℕ). group_of name ks ≡ Some j) (group_or_empty-name g ks) (sym (ap (group_of j.name) is) ∙ group_of-with_group_same j ks)

  same : group_or_empty g ks ≡ j
  same = ap (or_empty g) found

  by_new : IsNew g ks at bytes closes → ⊥
  by_new (inl none) = let bad : None ≡ Some j = sym none ∙ found in absurd cc
  by_new (inr (inl longer)) = let long : length (group_or_empty g ks).bytes ≡ length j.bytes = ap (λ (k : Group). length k.bytes) same in omega (arith, longer, long)
  by_new (inr (inr unsealed)) =
      let closed : (group_or_empty g ks).sealed ≡ ((group_or_empty g ks).sealed || closes) = ap (λ (k : Group). k.sealed) same in
      let shut : false ≡ true = sym unsealed.0 ∙ (closed ∙ rw (unsealed.0, unsealed.1)) in
      absurd cc

-- Plans that keep something

abbrev Keeping : Node → Input → Plan → Type 0
Keeping n i q = (q.keeps ≡ None) ⊎ (kept_at q.keeps n.groups (piece_of i) q.seals ≡ n.groups → ⊥)

keeping_none : (n : Node) (i : Input) (q : Plan) → q.keeps ≡ None → Keeping n i q
keeping_none n i q none = inl none

keeping_unless : (n : Node) (i : Input) (a : Option Answer) (o q : Plan) → o.keeps ≡ None → Keeping n i q → Keeping n i (unless a o q)
keeping_unless n i None o q none h = h
keeping_unless n i (Some a) o q none h = inl none

absent : (g : List ℕ) (ks : List Group) → is_some (line_of g (shelf ks)) ≡ false → group_of g ks ≡ None
absent g ks h = by_found (group_of g ks) refl where
  by_found : (found : Option Group) → group_of g ks ≡ found → group_of g ks ≡ None
  by_found None e = e
  by_found (Some k) e = let there : is_some (line_of g (shelf ks)) ≡ true = is_some-shelf g ks ∙ ap is_some e in absurd (true≢false (sym there ∙ h))

-- the facts that a test of two or three parts gives
either_part : (a b : Bool) → (a || b) ≡ true → (a ≡ true) ⊎ (b ≡ true)
either_part true b h = inl refl
either_part false b h = inr h

not_is : (b : Bool) → not b ≡ true → b ≡ false
not_is true h = absurd (cc h)
not_is false h = refl

some_count : (count : ℕ) → (count == 0) ≡ false → 0 < count
some_count zero h = absurd (cc h)
some_count (suc k) h = omega arith

-- a publish
keeping_published : (n : Node) (g bytes : List ℕ) → Keeping n (inputs.Publish g bytes) (published (begun n.control) (shelf n.groups) g bytes)
keeping_published n g bytes =
    either (n.control.me == 1) P (publish_to o ls (line_at g ls) (length bytes)) (answers o words.NotSource)
    (subst (λ l. P (publish_to o ls l (length bytes))) (sym (line_at-shelf g n.groups)) to_group)
    (inl refl) where
      o : Plan
      o = begun n.control

      ls : List Shelf
      ls = shelf n.groups

      P : Plan → Type 0
      P = Keeping n (inputs.Publish g bytes)

      k : Group
      k = group_or_empty g n.groups

      grows_new : grows ls k.name (length bytes) ≡ true → IsNew g n.groups (length k.bytes) bytes false
      grows_new e = by_part (either_part (not (is_some (line_of k.name ls))) (not (length bytes == 0)) e) where
        by_part : (not (is_some (line_of k.name ls)) ≡ true) ⊎ (not (length bytes == 0) ≡ true) → IsNew g n.groups (length k.bytes) bytes false
        by_part (inl none) = inl (absent g n.groups (subst (λ (name : List ℕ). is_some (line_of name ls) ≡ false) (group_or_empty-name g n.groups) (not_is (is_some (line_of k.name ls)) none)))
        by_part (inr some) =
            inr (inl (omega (arith, some_count (length bytes) (not_is (length bytes == 0) some), length-append k.bytes (drop (length k.bytes - length k.bytes) bytes), length-drop (length k.bytes - length k.bytes) bytes)))

      kept : Plan
      kept = if grows ls k.name (length bytes) then keeps o (length k.bytes) false else o

      to_group : P (publish_to o ls (shelf_of k) (length bytes))
      to_group =
          either k.sealed P (answers o words.Sealed) (unless (limit ls k.name (length k.bytes + length bytes)) o kept)
          (inl refl)
          (keeping_unless n (inputs.Publish g bytes) (limit ls k.name (length k.bytes + length bytes)) o kept refl
          (either_by (grows ls k.name (length bytes)) P (keeps o (length k.bytes) false) o (λ e. inr (kept_other g n.groups (length k.bytes) bytes false (grows_new e))) (λ e. inl refl)))

-- a seal
keeping_sealed : (n : Node) (g : List ℕ) → Keeping n (inputs.Seal g) (sealed_at (begun n.control) (shelf n.groups) g)
keeping_sealed n g =
    either (n.control.me == 1) P (seal_line o (line_of g ls)) (answers o words.NotSource)
    (subst (λ l. P (seal_line o l)) (sym (line_of-shelf g n.groups)) (by_found (group_of g n.groups) refl)) (inl refl) where
      o : Plan
      o = begun n.control

      ls : List Shelf
      ls = shelf n.groups

      P : Plan → Type 0
      P = Keeping n (inputs.Seal g)

      by_found : (found : Option Group) → group_of g n.groups ≡ found → P (seal_line o (option_map shelf_of found))
      by_found None e = inl refl
      by_found (Some k) e =
          let is : group_or_empty g n.groups ≡ k = ap (or_empty g) e in
          either_by k.sealed P (ignored o) (keeps o (length k.bytes) true) (λ shut. inl refl)
          (λ unsealed. inr (kept_other g n.groups (length k.bytes) [] true (inr (inr (ap (λ (j : Group). j.sealed) is ∙ unsealed, refl)))))

-- a chunk
abbrev comes : Message → Input
comes m = inputs.Delivered m

keeping_asks_on : (n : Node) (i : Input) (m : Mode) (p : ℕ) (lines : List Shelf) (o : Plan) → Keeping n i o → Keeping n i (asks_on m p lines o)
keeping_asks_on n i (modes.Joined q) p lines o h = either (q == p) (Keeping n i) _ o h h
keeping_asks_on n i modes.Idle p lines o h = h
keeping_asks_on n i (modes.Asking q) p lines o h = h
keeping_asks_on n i modes.Acting p lines o h = h

module _ (n : Node) (x p : ℕ) (g : List ℕ) (start : ℕ) (bytes : List ℕ) (last : Bool) where
  abbrev i : Input
  i = inputs.Delivered (record { from = p; to = x; body = bodies.Chunk g start bytes last })

  abbrev o : Plan
  o = begun n.control

  abbrev ls : List Shelf
  ls = shelf n.groups

  abbrev k : Group
  k = group_or_empty g n.groups

  abbrev end : ℕ
  end = start + length bytes

  adds_new : start ≤ length k.bytes → adds ls (shelf_of k) end last ≡ true → IsNew g n.groups start bytes (adds_seal (shelf_of k) end last)
  adds_new behind e = by_first (either_part (not (is_some (line_of k.name ls)) || nat_lt (length k.bytes) end) (adds_seal (shelf_of k) end last) e) where
    longer : length k.bytes < end → length k.bytes < length (k.bytes ++ drop (length k.bytes - start) bytes)
    longer past = omega (arith, past, behind, length-append k.bytes (drop (length k.bytes - start) bytes), length-drop (length k.bytes - start) bytes)

    by_second : (not (is_some (line_of k.name ls)) ≡ true) ⊎ (nat_lt (length k.bytes) end ≡ true) → IsNew g n.groups start bytes (adds_seal (shelf_of k) end last)
    by_second (inl none) = inl (absent g n.groups (subst (λ (name : List ℕ). is_some (line_of name ls) ≡ false) (group_or_empty-name g n.groups) (not_is (is_some (line_of k.name ls)) none)))
    by_second (inr past) = inr (inl (longer (ltb-true (length k.bytes) end past)))

    by_first : ((not (is_some (line_of k.name ls)) || nat_lt (length k.bytes) end) ≡ true) ⊎ (adds_seal (shelf_of k) end last ≡ true) → IsNew g n.groups start bytes (adds_seal (shelf_of k) end last)
    by_first (inl first) = by_second (either_part (not (is_some (line_of k.name ls))) (nat_lt (length k.bytes) end) first)
    by_first (inr seals) = inr (inr (not_is k.sealed (and_parts last (not k.sealed) (and_parts (last && not k.sealed) (nat_le (length k.bytes) end) seals).0).1, seals))

  keeping_keeps_chunk : start ≤ length k.bytes → Keeping n i (keeps_chunk o ls p (shelf_of k) start end last)
  keeping_keeps_chunk behind =
      either_by (adds ls (shelf_of k) end last) (Keeping n i) (asks_on n.control.kept.mode p (with_line (grown_line (shelf_of k) end last) ls) (keeps o start (adds_seal (shelf_of k) end last))) (ignored o)
      (λ e. keeping_asks_on n i n.control.kept.mode p (with_line (grown_line (shelf_of k) end last) ls) (keeps o start (adds_seal (shelf_of k) end last))
      (inr (kept_other g n.groups start bytes (adds_seal (shelf_of k) end last) (adds_new behind e))))
      (λ e. inl refl)

  keeping_chunk_to : Keeping n i (chunk_to o ls p (shelf_of k) start end last)
  keeping_chunk_to =
      either_by (nat_lt (length k.bytes) start) (Keeping n i) (answers o words.Gap)
      (if k.sealed && nat_lt (length k.bytes) end then answers o words.Sealed else unless (limit ls k.name end) o (keeps_chunk o ls p (shelf_of k) start end last))
      (λ e. inl refl)
      (λ e. either (k.sealed && nat_lt (length k.bytes) end) (Keeping n i) (answers o words.Sealed) (unless (limit ls k.name end) o (keeps_chunk o ls p (shelf_of k) start end last)) (inl refl)
      (keeping_unless n i (limit ls k.name end) o (keeps_chunk o ls p (shelf_of k) start end last) refl (keeping_keeps_chunk (ltb-false (length k.bytes) start e))))

  keeping_chunk : Keeping n i (took_chunk o ls p g start bytes last)
  keeping_chunk =
      either (n.control.me == 1) (Keeping n i) (ignored o) (chunk_to o ls p (line_at g ls) start end last) (inl refl)
      (subst (λ l. Keeping n i (chunk_to o ls p l start end last)) (sym (line_at-shelf g n.groups)) keeping_chunk_to)

-- Each step

keeping_received : (n : Node) (m : Message) (b : Body) → m.body ≡ b → Keeping n (comes m) (received (begun n.control) (shelf n.groups) m.from b)
keeping_received n m bodies.Look is = inl (goes_looked (begun n.control) m.from).by.keeps
keeping_received n m (bodies.LookIs is_in parent rate children) is = inl (goes_sees (begun n.control) m.from (record { in_tree = is_in; parent = parent; rate = rate; children = children })).by.keeps
keeping_received n m (bodies.Ask seq rank) is = inl (goes_asked (begun n.control) m.from seq rank).by.keeps
keeping_received n m (bodies.Yes seq rank ancestors) is = inl (goes_took_yes (begun n.control) m.from seq rank ancestors).by.keeps
keeping_received n m (bodies.No seq why) is = inl (goes_took_no (begun n.control) m.from seq why).by.keeps
keeping_received n m (bodies.CheckIn seq upto rate number clients certs) is = inl (goes_checked_in (begun n.control) m.from seq upto rate number clients certs).by.keeps
keeping_received n m (bodies.CheckAck seq upto rank ancestors) is = inl (goes_took_ack (begun n.control) m.from seq upto rank ancestors).by.keeps
keeping_received n m (bodies.Rejoin seq) is = inl (goes_took_rejoin (begun n.control) m.from seq).by.keeps
keeping_received n m (bodies.Fetch have) is = inl (fetch_keeps (next_behind n.control.chunk have (shelf n.groups))) where
  fetch_keeps : (l : Option Shelf) → (answers_fetch (begun n.control) m.from have l).keeps ≡ None
  fetch_keeps None = refl
  fetch_keeps (Some l) = refl
keeping_received n m (bodies.Chunk g start bytes last) is =
    subst (λ (b : Body). Keeping n (inputs.Delivered (record { from = m.from; to = m.to; body = b })) (received (begun n.control) (shelf n.groups) m.from (bodies.Chunk g start bytes last))) (sym is)
    (keeping_chunk n m.to m.from g start bytes last)

keeping : (n : Node) (i : Input) → Keeping n i (plan n.control (shelf n.groups) i)
keeping n (inputs.Tick t) = inl (goes_tick (begun n.control) (shelf n.groups) t).by.keeps
keeping n inputs.CheckNow = inl (goes_checks (begun n.control)).by.keeps
keeping n (inputs.Relocate p) = inl (goes_relocate (begun n.control) p).by.keeps
keeping n (inputs.Unreachable p) = inl (goes_unreachable (begun n.control) p).by.keeps
keeping n (inputs.Pull p) = inl (goes_pulled (begun n.control) (shelf n.groups) p).by.keeps
keeping n (inputs.Measured p rate hops) = inl (goes_measured (begun n.control) p rate hops).by.keeps
keeping n (inputs.Publish g bytes) = keeping_published n g bytes
keeping n (inputs.Seal g) = keeping_sealed n g
keeping n (inputs.Client area start g) = inl (goes_client (begun n.control) (shelf n.groups) area start g).by.keeps
keeping n (inputs.Delivered m) = keeping_received n m m.body refl

-- A record means a durable change

left_other : (d e : Durable) → Left d e → e ≡ d → ⊥
left_other d e (inl less) is = let seq : e.seq ≡ d.seq = ap (λ f. f.seq) is in omega (arith, less, seq)
left_other d e (inr gone) is = gone.2 (ap (λ f. f.mode) is)

-- the step changes neither the durable control state nor the groups
abbrev Unchanged : Node → Input → Type 0
Unchanged n i = ((step n i).node.control.kept ≡ n.control.kept) × ((step n i).node.groups ≡ n.groups)

-- nothing durable changed if nothing was written
none_written : (n : Node) (i : Input) → writes_frame n i ≡ false → Unchanged n i
none_written n i none = by_parts (plan n.control (shelf n.groups) i).records (plan n.control (shelf n.groups) i).keeps refl refl where
  by_parts : (rs : List Record) (at : Option ℕ) → (plan n.control (shelf n.groups) i).records ≡ rs → (plan n.control (shelf n.groups) i).keeps ≡ at → Unchanged n i
  by_parts [] None is keeps = ((writes n.control (shelf n.groups) i).kept ∙ ap (folded n.control.kept) is, ap (λ at. kept_at at n.groups (piece_of i) (plan n.control (shelf n.groups) i).seals) keeps)
  by_parts [] (Some at) is keeps = let some : true ≡ false = sym (rw (is, keeps)) ∙ none in absurd cc
  by_parts (r ∷ rs) at is keeps = let some : true ≡ false = sym (rw is) ∙ none in absurd cc

-- the change by a lawful input at a sound and calm node
moved_at : (n : Node) (i : Input) → IsSound n.control → SeeksNoPlace n.control → ((p rate hops : ℕ) → i ≡ inputs.Measured p rate hops → IsNode n.control.nodes p)
    → Moved (Unit {0}) n.control.kept (plan n.control (shelf n.groups) i)
moved_at n i sound calm fair =
    moves (Unit {0}) n.control (λ q p asking none. has_asked p asking none) (shelf n.groups) i
    (λ q descends acting. subst NoDescent descends (calm.acting acting))
    (λ p rate hops is q. let node : IsNode n.control.nodes p = fair p rate hops is in (node.0, omega (arith, node.1, sound.kept.measures))) where
      has_asked : (p : ℕ) → n.control.kept.mode ≡ Asking p → n.control.kept.seq ≡ 0 → ⊥
      has_asked p asking none = let sound_ask : IsSoundAs (Asking p) n.control.kept = subst (λ (m : Mode). IsSoundAs m n.control.kept) asking sound.kept.mode in sound_ask.0 none

-- the peer of a lawful measurement is a node
pub measured_fair : (nodes me : ℕ) (i : Input) → IsInput nodes me i → (p rate hops : ℕ) → i ≡ inputs.Measured p rate hops → IsNode nodes p
measured_fair nodes me i fair p rate hops is = let here : IsInput nodes me (inputs.Measured p rate hops) = subst (IsInput nodes me) is fair in here.0

-- a step writes exactly if it changes the durable state
pub writes_exactly : (n : Node) (i : Input) → IsSound n.control → SeeksNoPlace n.control → ((p rate hops : ℕ) → i ≡ inputs.Measured p rate hops → IsNode n.control.nodes p) → (writes_frame n i ≡ true) ↔ (Unchanged n i → ⊥)
writes_exactly n i sound calm fair = (written, unwritten) where
  by_keeping : Keeping n i (plan n.control (shelf n.groups) i) → (plan n.control (shelf n.groups) i).records ≡ [] → writes_frame n i ≡ true → Unchanged n i → ⊥
  by_keeping (inl none) rs some same = let nothing : false ≡ true = sym (rw (rs, none)) ∙ some in absurd cc
  by_keeping (inr other) rs some same = other same.1

  by_move : Moved (Unit {0}) n.control.kept (plan n.control (shelf n.groups) i) → writes_frame n i ≡ true → Unchanged n i → ⊥
  by_move (still rs kept) some same = by_keeping (keeping n i) rs some same
  by_move (left gone) some same = left_other n.control.kept (plan n.control (shelf n.groups) i).node.kept gone same.0
  by_move (joined p q was now) some same = absurd (cc (sym was ∙ (sym (ap (λ e. e.mode) same.0) ∙ now)))
  by_move (stays taken here) some same = here.changed tt same.0

  written : writes_frame n i ≡ true → Unchanged n i → ⊥
  written some same = by_move (moved_at n i sound calm fair) some same

  unwritten : (Unchanged n i → ⊥) → writes_frame n i ≡ true
  unwritten changed = by_test (writes_frame n i) refl where
    by_test : (b : Bool) → writes_frame n i ≡ b → writes_frame n i ≡ true
    by_test true e = e
    by_test false e = absurd (changed (none_written n i e))

-- Quash

pub quashed : (n : Node) (i : Input) (p q : ℕ) → n.control.kept.mode ≡ Joined p → (step n i).node.control.kept.mode ≡ Joined q → (step n i).node.control.kept.seq ≡ n.control.kept.seq
    → (taken : List Cert) × IsQuashed n.control.kept (step n i).node.control.kept taken
quashed n i p q was now same =
    by_move (moves ⊥ n.control (λ q k asking none. q) (shelf n.groups) i (λ k descends acting. absurd (cc (sym was ∙ acting))) (λ k rate hops is q. absurd q)) where
      e : Durable
      e = (step n i).node.control.kept

      by_mode : (e.mode ≡ Idle) ⊎ (e.mode ≡ Acting) → (taken : List Cert) × IsQuashed n.control.kept e taken
      by_mode (inl idle) = absurd (cc (sym idle ∙ now))
      by_mode (inr acting) = absurd (cc (sym acting ∙ now))

      by_left : Left n.control.kept e → (taken : List Cert) × IsQuashed n.control.kept e taken
      by_left (inl less) = absurd (omega (arith, less, same))
      by_left (inr gone) = by_mode gone.1

      by_move : Moved ⊥ n.control.kept (plan n.control (shelf n.groups) i) → (taken : List Cert) × IsQuashed n.control.kept e taken
      by_move (still rs kept) = ([], record { table = ap (λ d. d.table) kept; log = inl (ap (λ d. d.log) kept ∙ tail_none n.control.kept.log) })
      by_move (left gone) = by_left gone
      by_move (joined k l asked is) = absurd (cc (sym was ∙ asked))
      by_move (stays taken here) = (taken, record { table = here.table; log = here.log p was })
