-- Each rule by which content comes in and spreads keeps it true.
use Rattle.std.proofs.Common.{◌≡◌, ℕ, zero, suc, ◌+◌, ◌-◌, ◌≤◌, Bool, true, false, not, ◌&&◌, ◌||◌, ◌==◌, nat_lt, nat_le, if◌then◌else◌, Option, Some, None, option_map, is_some, List, [], ◌∷◌, ◌++◌, length, take, drop, refl, ap, sym, subst, ◌∙◌, ⊎_elim, arith, true≢false, eqb-true, ne_eqb, leb-true, ltb-false, append-nil}
use Rattle.std.specs.List.{AllByRecursion}
use Rattle.std.proofs.lemmas.Bool.{eqb-false, and_parts, and_cases, or_cases, or_left, cond_both}
use Rattle.oc_base.specs.declared.shelf.Shelf.{Shelf}
use Rattle.oc_model.specs.declared.answer.Answer.{Answer}
use Rattle.oc_model.specs.declared.answer.Answer.TheVariants as answers
use Rattle.oc_base.specs.declared.group.Group.{Group}
use Rattle.oc_model.specs.declared.input.Input.{Input}
use Rattle.oc_model.specs.declared.input.Input.TheVariants.{Publish, Seal, Delivered}
use Rattle.oc_model.specs.declared.message.Body.{Body}
use Rattle.oc_model.specs.declared.message.Body.TheVariants.{Fetch, Chunk}
use Rattle.oc_model.specs.declared.message.Message.{Message}
use Rattle.oc_model.specs.declared.mode.Mode.{Mode}
use Rattle.oc_model.specs.declared.mode.Mode.TheVariants.{Idle, Asking, Joined, Acting}
use Rattle.oc_model.specs.Content.{unless, keeps, grows, publish_to, published, seal_line, sealed_at, count_from, sends_chunk, answers_fetch, fetched, adds_seal, adds, grown_line, asks_on, keeps_chunk, chunk_to, took_chunk}
use Rattle.oc_base.specs.Named.{same_name}
use Rattle.oc_base.specs.Groups.{group_of, group_or_empty, or_empty, with_group, shelf_of, shelf}
use Rattle.oc_base.specs.declared.limits.TheConstants.{MAX_GROUPS, MAX_GROUP_BYTES}
use Rattle.oc_model.specs.Node.{Node, Outcome}
use Rattle.oc_model.specs.Plan.{Plan, begun, send, ignored, answers as says}
use Rattle.oc_model.specs.Shelves.{line_at, with_line, limit, next_behind}
use Rattle.oc_base.specs.Shelves.{line_of}
use Rattle.oc_model.specs.Step.{grown, finished, bytes_wanted}
use Rattle.oc_model.specs.World.{source_after}
use Rattle.oc_model.proofs.Groups.{ascend-found, ascend-with_group, group_of-name, group_of-with_group, group_or_empty-name, group_or_empty-held, put_at}
use Rattle.oc_base.proofs.NameOrder.{names_equal}
use Rattle.oc_model.proofs.Shelves.{line_of-shelf, line_at-shelf, is_some-shelf, with_line-shelf, line-grown, next_behind-shelf}
use Rattle.oc_laws_world.proofs.Fair.{Ready, MaySend, Fair, fair_still, fair_source, fair_same, fair_keeps}
use Rattle.oc_laws_world.proofs.Fronts.{IsFront, IsPiece, front_append, front_whole, front_itself, joined, joined_front, joined_length, joined_within}
use Rattle.oc_laws_world.proofs.Truth.{AreSame, MayReplace, IsHeld, Holds, IsTrueOfSource, IsTrue, piece_true, shelf_true}

-- the outcome of an input by this step under way, with the source after it
abbrev pub IsFair : List Group → Input → Node → Plan → Type 0
IsFair s i n o = Fair s (source_after s i o.answer) n (finished n i o)

-- a limit refuses with one of two words, or does not refuse
limit_cases : (P : Option Answer → Type 0) (ls : List Shelf) (g : List ℕ) (end : ℕ) → P None → P (Some answers.Groups) → P (Some answers.TooLong) → P (limit ls g end)
limit_cases P ls g end none groups long =
    cond_both (not (is_some (line_of g ls)) && nat_le MAX_GROUPS (length ls)) (Some answers.Groups) (if nat_lt MAX_GROUP_BYTES end then Some answers.TooLong else None) P
    (λ _. groups)
    (λ _. cond_both (nat_lt MAX_GROUP_BYTES end) (Some answers.TooLong) None P (λ _. long) (λ _. none))

-- a group grown from an open one may replace it
replaces : (k new : Group) (ks : List Group) → ((t : Group) → group_of new.name ks ≡ Some t → k ≡ t) → IsFront k.bytes new.bytes → (k.sealed ≡ true → new ≡ k) → MayReplace new ks
replaces k new ks is front stays t h =
    let same : k ≡ t = is t h in (
      subst (λ (j : Group). IsFront j.bytes new.bytes) same front,
      λ e. stays (ap (λ (j : Group). j.sealed) same ∙ e) ∙ same,
    )

-- Publish

abbrev longer : Group → List ℕ → Group
longer k bytes = record k { bytes = k.bytes ++ bytes }

-- the piece that a publish keeps has all its bytes
grown_all : (k : Group) (bytes : List ℕ) → grown k (length k.bytes) bytes false ≡ longer k bytes
grown_all k bytes =
    let none : length k.bytes - length k.bytes ≡ 0 = omega arith in
    let all : k.bytes ++ drop (length k.bytes - length k.bytes) bytes ≡ k.bytes ++ bytes = ap (λ n. k.bytes ++ drop n bytes) none in
    let closed : (k.sealed || false) ≡ k.sealed = by_test k.sealed in
    λ i. record { name = k.name; bytes = all i; sealed = closed i } where
      by_test : (b : Bool) → (b || false) ≡ b
      by_test true = refl
      by_test false = refl

-- node 1 and the source put the same bytes at the end of an open group
publish_keeps : (s : List Group) (n : Node) (g bytes : List ℕ) → Ready s n → n.control.me ≡ 1 → (group_or_empty g n.groups).sealed ≡ false
    → IsFair s (Publish g bytes) n (keeps (begun n.control) (length (group_or_empty g n.groups).bytes) false)
publish_keeps s n g bytes ready first unsealed =
    let k : Group = group_or_empty g n.groups in
    let same : k ≡ group_or_empty g s = ap (or_empty g) (ready.own first g) in
    let may : MayReplace (longer k bytes) n.groups =
    replaces k (longer k bytes) n.groups (group_or_empty-held g n.groups) (front_append k.bytes bytes) (λ e. absurd (true≢false (sym e ∙ unsealed))) in
    subst (λ (j : Group). Fair s (with_group (longer j bytes) s) n (finished n (Publish g bytes) (keeps (begun n.control) (length k.bytes) false))) same
    (fair_source s n (longer k bytes) (finished n (Publish g bytes) (keeps (begun n.control) (length k.bytes) false)) ready first may refl (ap (λ j. with_group j n.groups) (grown_all k bytes)) refl)

-- a publish of no bytes to a group that is there leaves the same groups in the source
same_published : (s : List Group) (g : List ℕ) (k : Group) → group_of g s ≡ Some k → AreSame (with_group (longer (group_or_empty g s) []) s) s
same_published s g k found h =
    let here : group_or_empty g s ≡ k = ap (or_empty g) found in
    let whole : longer (group_or_empty g s) [] ≡ k = (λ i. record { name = (group_or_empty g s).name; bytes = append-nil (group_or_empty g s).bytes i; sealed = (group_or_empty g s).sealed }) ∙ here in
    let name : k.name ≡ g = group_of-name g s k found in
    subst (λ j. group_of h (with_group j s) ≡ group_of h s) (sym whole) (group_of-with_group h k s ∙ by_test name (same_name h k.name) refl) where
      by_test : k.name ≡ g → (b : Bool) → same_name h k.name ≡ b → put_at h k (group_of h s) ≡ group_of h s
      by_test name true e = rw e (sym (ap (λ z. group_of z s) (names_equal h k.name e ∙ name) ∙ found))
      by_test name false e = rw e refl

-- a disjunction with a true part is true
or_true : (b : Bool) → (b || true) ≡ true
or_true true = refl
or_true false = refl

-- a publish that adds nothing
publish_nothing : (s : List Group) (n : Node) (g bytes : List ℕ) → Ready s n → n.control.me ≡ 1 → grows (shelf n.groups) (group_or_empty g n.groups).name (length bytes) ≡ false
    → IsFair s (Publish g bytes) n (begun n.control)
publish_nothing s n g bytes ready first none = by_bytes bytes none where
  by_found : (found : Option Group) → group_of g n.groups ≡ found → is_some found ≡ true → IsFair s (Publish g []) n (begun n.control)
  by_found None f some = absurd cc
  by_found (Some k) f some =
      fair_same s (with_group (longer (group_or_empty g s) []) s) n (finished n (Publish g []) (begun n.control)) ready first (same_published s g k (sym (ready.own first g) ∙ f)) refl refl refl

  is_held : (not (is_some (line_of (group_or_empty g n.groups).name (shelf n.groups))) || not (0 == 0)) ≡ false → is_some (group_of g n.groups) ≡ true
  is_held e =
      let here : is_some (line_of (group_or_empty g n.groups).name (shelf n.groups)) ≡ is_some (group_of g n.groups) =
      ap (λ z. is_some (line_of z (shelf n.groups))) (group_or_empty-name g n.groups) ∙ is_some-shelf g n.groups in
      by_test (is_some (group_of g n.groups)) refl (rw here at e) where
        by_test : (b : Bool) → is_some (group_of g n.groups) ≡ b → (not b || not (0 == 0)) ≡ false → is_some (group_of g n.groups) ≡ true
        by_test true f e = f
        by_test false f e = absurd cc

  by_bytes : (bs : List ℕ) → grows (shelf n.groups) (group_or_empty g n.groups).name (length bs) ≡ false → IsFair s (Publish g bs) n (begun n.control)
  by_bytes [] e = by_found (group_of g n.groups) refl (is_held e)
  by_bytes (b ∷ bs) e =
      let some : (length (b ∷ bs) == 0) ≡ false = ne_eqb (length (b ∷ bs)) 0 (λ none. omega (arith, none)) in
      absurd (true≢false (sym (or_true (not (is_some (line_of (group_or_empty g n.groups).name (shelf n.groups))))) ∙ (rw some at e)))

-- a publish at node 1, whether it is kept or refused
publish_to_fair : (s : List Group) (n : Node) (g bytes : List ℕ) → Ready s n → n.control.me ≡ 1 → IsFair s (Publish g bytes) n (publish_to (begun n.control) (shelf n.groups) (shelf_of (group_or_empty g n.groups)) (length bytes))
publish_to_fair s n g bytes ready first =
    cond_both k.sealed (says o answers.Sealed) (unless (limit ls k.name (length k.bytes + length bytes)) o kept) (IsFair s (Publish g bytes) n)
    (λ _. fair_still s n (finished n (Publish g bytes) (says o answers.Sealed)) ready refl refl tt)
    (λ e. limit_cases (λ l. IsFair s (Publish g bytes) n (unless l o kept)) ls k.name (length k.bytes + length bytes)
    (cond_both (grows ls k.name (length bytes)) (keeps o (length k.bytes) false) o (IsFair s (Publish g bytes) n)
    (λ _. publish_keeps s n g bytes ready first e)
    (λ none. publish_nothing s n g bytes ready first none))
    (fair_still s n (finished n (Publish g bytes) (says o answers.Groups)) ready refl refl tt)
    (fair_still s n (finished n (Publish g bytes) (says o answers.TooLong)) ready refl refl tt)) where
      k : Group
      k = group_or_empty g n.groups

      ls : List Shelf
      ls = shelf n.groups

      o : Plan
      o = begun n.control

      kept : Plan
      kept = if grows ls k.name (length bytes) then keeps o (length k.bytes) false else o

-- a publish at any node
pub publish_fair : (s : List Group) (n : Node) (g bytes : List ℕ) → Ready s n → IsFair s (Publish g bytes) n (published (begun n.control) (shelf n.groups) g bytes)
publish_fair s n g bytes ready =
    let o : Plan = begun n.control in
    cond_both (n.control.me == 1) (publish_to o (shelf n.groups) (line_at g (shelf n.groups)) (length bytes)) (says o answers.NotSource) (IsFair s (Publish g bytes) n)
    (λ e. subst (λ l. IsFair s (Publish g bytes) n (publish_to o (shelf n.groups) l (length bytes))) (sym (line_at-shelf g n.groups)) (publish_to_fair s n g bytes ready (eqb-true n.control.me 1 e)))
    (λ _. fair_still s n (finished n (Publish g bytes) (says o answers.NotSource)) ready refl refl tt)

-- Seal

abbrev closed : Group → Group
closed k = record k { sealed = true }

-- an empty list stays empty without its first items
drop_nothing : (m : ℕ) → drop {A = ℕ} m [] ≡ []
drop_nothing zero = refl
drop_nothing (suc m) = refl

-- the piece that a seal keeps is the seal
grown_seal : (k : Group) → grown k (length k.bytes) [] true ≡ closed k
grown_seal k =
    let none : drop (length k.bytes - length k.bytes) [] ≡ [] = drop_nothing (length k.bytes - length k.bytes) in
    let bytes : k.bytes ++ drop (length k.bytes - length k.bytes) [] ≡ k.bytes = ap (λ xs. k.bytes ++ xs) none ∙ append-nil k.bytes in
    let shut : (k.sealed || true) ≡ true = or_true k.sealed in
    λ i. record { name = k.name; bytes = bytes i; sealed = shut i }

-- node 1 and the source seal the same open group
seal_keeps : (s : List Group) (n : Node) (g : List ℕ) (k : Group) → Ready s n → n.control.me ≡ 1 → group_of g n.groups ≡ Some k → k.sealed ≡ false
    → IsFair s (Seal g) n (keeps (begun n.control) (length k.bytes) true)
seal_keeps s n g k ready first found unsealed =
    let name : k.name ≡ g = group_of-name g n.groups k found in
    let is : (t : Group) → group_of k.name n.groups ≡ Some t → k ≡ t = λ t h. let here : Some k ≡ Some t = sym found ∙ (rw name at h) in cc in
    let may : MayReplace (closed k) n.groups = replaces k (closed k) n.groups is (front_itself k.bytes) (λ e. absurd (true≢false (sym e ∙ unsealed))) in
    let same : k ≡ group_or_empty g s = ap (or_empty g) (sym found ∙ ready.own first g) in
    let here : group_or_empty g n.groups ≡ k = ap (or_empty g) found in
    let groups : with_group (grown (group_or_empty g n.groups) (length k.bytes) [] true) n.groups ≡ with_group (closed k) n.groups =
    ap (λ j. with_group (grown j (length k.bytes) [] true) n.groups) here ∙ ap (λ j. with_group j n.groups) (grown_seal k) in
    subst (λ (j : Group). Fair s (with_group (closed j) s) n (finished n (Seal g) (keeps (begun n.control) (length k.bytes) true))) same
    (fair_source s n (closed k) (finished n (Seal g) (keeps (begun n.control) (length k.bytes) true)) ready first may refl groups refl)

-- a seal at node 1, whether the group is held or not
seal_line_fair : (s : List Group) (n : Node) (g : List ℕ) → Ready s n → n.control.me ≡ 1 → IsFair s (Seal g) n (seal_line (begun n.control) (line_of g (shelf n.groups)))
seal_line_fair s n g ready first =
    subst (λ l. IsFair s (Seal g) n (seal_line (begun n.control) l)) (sym (line_of-shelf g n.groups)) (by_found (group_of g n.groups) refl) where
      by_found : (found : Option Group) → group_of g n.groups ≡ found → IsFair s (Seal g) n (seal_line (begun n.control) (option_map shelf_of found))
      by_found None e = fair_still s n (finished n (Seal g) (says (begun n.control) answers.NoGroup)) ready refl refl tt
      by_found (Some k) e =
          cond_both k.sealed (ignored (begun n.control)) (keeps (begun n.control) (length k.bytes) true) (IsFair s (Seal g) n)
          (λ _. fair_still s n (finished n (Seal g) (ignored (begun n.control))) ready refl refl tt)
          (λ f. seal_keeps s n g k ready first e f)

-- a seal at any node
pub seal_fair : (s : List Group) (n : Node) (g : List ℕ) → Ready s n → IsFair s (Seal g) n (sealed_at (begun n.control) (shelf n.groups) g)
seal_fair s n g ready =
    let o : Plan = begun n.control in
    cond_both (n.control.me == 1) (seal_line o (line_of g (shelf n.groups))) (says o answers.NotSource) (IsFair s (Seal g) n)
    (λ e. seal_line_fair s n g ready (eqb-true n.control.me 1 e))
    (λ _. fair_still s n (finished n (Seal g) (says o answers.NotSource)) ready refl refl tt)

-- Fetch

-- a message to x from p
abbrev pub comes : ℕ → ℕ → Body → Input
comes x p b = Delivered (record { from = p; to = x; body = b })

-- a chunk of a held group, of `count` bytes from a place on, is true
chunk_true : (s : List Group) (n : Node) (x p : ℕ) (k : Group) (have : List Shelf) (start : ℕ) → Ready s n → group_of k.name n.groups ≡ Some k
    → Fair s s n (finished n (comes x p (Fetch have)) (sends_chunk (begun n.control) p (shelf_of k) start (count_from n.control.chunk (shelf_of k) start)))
chunk_true s n x p k have start ready found = by_test (count == 0) refl where
  count : ℕ
  count = count_from n.control.chunk (shelf_of k) start

  sent : List ℕ → Message
  sent bytes = record { from = n.control.me; to = p; body = Chunk k.name start bytes (k.sealed && start + count == length k.bytes) }

  may : (bytes : List ℕ) → bytes ≡ take count (drop start k.bytes) → MaySend s n.control.me n.groups (sent bytes)
  may bytes is = (refl, record { source = piece_true s k.name k start count bytes (ready.holds.each k.name k found) (omega arith) is; sender = tt })

  by_test : (b : Bool) → (count == 0) ≡ b → Fair s s n (finished n (comes x p (Fetch have)) (sends_chunk (begun n.control) p (shelf_of k) start count))
  by_test true e =
      let none : count ≡ 0 = eqb-true count 0 e in
      let empty : [] ≡ take count (drop start k.bytes) = sym (ap (λ m. take m (drop start k.bytes)) none) in
      rw e (fair_still s n (record { node = n; records = []; sends = sent [] ∷ []; answer = answers.Ok }) ready refl refl (may [] empty, tt))
  by_test false e =
      let bytes : List ℕ = bytes_wanted n.groups (record { group = k.name; start = start; count = count }) in
      let is : bytes ≡ take count (drop start k.bytes) = ap (λ f. take count (drop start (or_empty k.name f).bytes)) found in
      rw e (fair_still s n (record { node = n; records = []; sends = sent bytes ∷ []; answer = answers.Ok }) ready refl refl (may bytes is, tt))

-- a fetch is answered by at most one chunk, which is true
pub fetch_fair : (s : List Group) (n : Node) (x p : ℕ) (have : List Shelf) → Ready s n → Fair s s n (finished n (comes x p (Fetch have)) (fetched (begun n.control) (shelf n.groups) p have))
fetch_fair s n x p have ready = by_found (next_behind n.control.chunk have (shelf n.groups)) refl where
  by_line : (l : Shelf) → (k : Group) × (group_of k.name n.groups ≡ Some k) × (l ≡ shelf_of k) → Fair s s n (finished n (comes x p (Fetch have)) (answers_fetch (begun n.control) p have (Some l)))
  by_line l found =
      subst (λ z. Fair s s n (finished n (comes x p (Fetch have)) (answers_fetch (begun n.control) p have (Some z)))) (sym found.2)
      (chunk_true s n x p found.0 have (line_at found.0.name have).held ready found.1)

  by_found : (found : Option Shelf) → next_behind n.control.chunk have (shelf n.groups) ≡ found → Fair s s n (finished n (comes x p (Fetch have)) (answers_fetch (begun n.control) p have found))
  by_found None e = fair_still s n (finished n (comes x p (Fetch have)) (begun n.control)) ready refl refl tt
  by_found (Some l) e = by_line l (next_behind-shelf n.control.chunk n.groups have l (ascend-found n.groups ready.holds.ascend) e)

-- Chunk

-- the group of a name, or an empty one, is a prefix of the source's group
held_or_empty : (s ks : List Group) (g : List ℕ) (t : Group) → Holds s ks → group_of g s ≡ Some t → IsHeld s g (group_or_empty g ks)
held_or_empty s ks g t holds there = by_found (group_of g ks) refl where
  by_found : (found : Option Group) → group_of g ks ≡ found → IsHeld s g (or_empty g found)
  by_found None e = record { whole = t; found = there; front = refl; sealed = λ h. absurd cc }
  by_found (Some k) e = holds.each g k e

-- a group with the new bytes of a chunk
abbrev with_new : Group → ℕ → List ℕ → Bool → Group
with_new k start bytes last = grown k start bytes (adds_seal (shelf_of k) (start + length bytes) last)

-- a prefix of the source's group is still one with the new bytes of a true chunk
grown_held : (s : List Group) (g : List ℕ) (k : Group) (start : ℕ) (bytes : List ℕ) (last : Bool)
    → IsHeld s g k → IsTrueOfSource s (Chunk g start bytes last) → start ≤ length k.bytes → (k.sealed ≡ true → start + length bytes ≤ length k.bytes)
    → IsHeld s g (with_new k start bytes last)
grown_held s g k start bytes last held chunk within ends =
    let there : Some chunk.0 ≡ Some held.whole = sym chunk.1 ∙ held.found in
    let same : chunk.0 ≡ held.whole = cc in
    let piece : IsPiece start bytes held.whole.bytes = subst (λ (t : Group). IsPiece start bytes t.bytes) same chunk.2 in
    let front : IsFront (joined k.bytes start bytes) held.whole.bytes = joined_front k.bytes start bytes held.whole.bytes held.front within piece in
    let closing : last ≡ true → (held.whole.sealed ≡ true) × (start + length bytes ≡ length held.whole.bytes) = subst (λ (t : Group). last ≡ true → (t.sealed ≡ true) × (start + length bytes ≡ length t.bytes)) same chunk.3 in
    record { whole = held.whole; found = held.found; front = front; sealed = λ e. ⊎_elim (by_old) (by_new front closing) (or_cases k.sealed (adds_seal (shelf_of k) (start + length bytes) last) e) } where
      by_old : k.sealed ≡ true → (held.whole.sealed ≡ true) × (joined k.bytes start bytes ≡ held.whole.bytes)
      by_old e = ((held.sealed e).0, joined_within k.bytes start bytes (ends e) ∙ (held.sealed e).1)

      by_new : IsFront (joined k.bytes start bytes) held.whole.bytes → (last ≡ true → (held.whole.sealed ≡ true) × (start + length bytes ≡ length held.whole.bytes))
          → adds_seal (shelf_of k) (start + length bytes) last ≡ true → (held.whole.sealed ≡ true) × (joined k.bytes start bytes ≡ held.whole.bytes)
      by_new front closing e =
          let parts = and_parts (last && not k.sealed) (nat_le (length k.bytes) (start + length bytes)) e in
          let long : length k.bytes ≤ start + length bytes = leb-true (length k.bytes) (start + length bytes) parts.1 in
          let full = closing (and_parts last (not k.sealed) parts.0).0 in
          let size = joined_length k.bytes start bytes within long in
          (full.0, front_whole (joined k.bytes start bytes) held.whole.bytes front (omega (arith, full.1, size)))

-- a sealed group stays as it is
grown_sealed : (k : Group) (start : ℕ) (bytes : List ℕ) (last : Bool) → (k.sealed ≡ true → start + length bytes ≤ length k.bytes) → k.sealed ≡ true → with_new k start bytes last ≡ k
grown_sealed k start bytes last ends e =
    let same : joined k.bytes start bytes ≡ k.bytes = joined_within k.bytes start bytes (ends e) in
    let shut : (k.sealed || adds_seal (shelf_of k) (start + length bytes) last) ≡ k.sealed = or_left k.sealed (adds_seal (shelf_of k) (start + length bytes) last) e ∙ sym e in
    λ i. record { name = k.name; bytes = same i; sealed = shut i }

-- a true chunk that neither leaves a gap nor goes past the end of a sealed group, for the group as held or empty
record Fits (s : List Group) (n : Node) (g : List ℕ) (start : ℕ) (bytes : List ℕ) (last : Bool) : Type 0 where
  ready : Ready s n
  other : n.control.me ≡ 1 → ⊥
  chunk : IsTrueOfSource s (Chunk g start bytes last)
  within : start ≤ length (group_or_empty g n.groups).bytes
  ends : (group_or_empty g n.groups).sealed ≡ true → start + length bytes ≤ length (group_or_empty g n.groups).bytes

-- the new bytes of a chunk are kept, with these messages
grown_fair : (s : List Group) (n : Node) (x p : ℕ) (g : List ℕ) (start : ℕ) (bytes : List ℕ) (last : Bool) (o : Outcome) → Fits s n g start bytes last
    → o.node.control.me ≡ n.control.me → o.node.groups ≡ with_group (with_new (group_or_empty g n.groups) start bytes last) n.groups
    → AllByRecursion (MaySend s n.control.me (with_group (with_new (group_or_empty g n.groups) start bytes last) n.groups)) o.sends → Fair s s n o
grown_fair s n x p g start bytes last o fits me groups sent =
    let k : Group = group_or_empty g n.groups in
    let name : k.name ≡ g = group_or_empty-name g n.groups in
    let may : MayReplace (with_new k start bytes last) n.groups =
    replaces k (with_new k start bytes last) n.groups (group_or_empty-held g n.groups) (front_append k.bytes (drop (length k.bytes - start) bytes)) (grown_sealed k start bytes last fits.ends) in
    let held : IsHeld s g (with_new k start bytes last) = grown_held s g k start bytes last (held_or_empty s n.groups g fits.chunk.0 fits.ready.holds fits.chunk.1) fits.chunk fits.within fits.ends in
    fair_keeps s n (with_new k start bytes last) o fits.ready fits.other may (subst (λ (z : List ℕ). IsHeld s z (with_new k start bytes last)) (sym name) held) me groups sent

-- a fetch of the new shelf goes to the sender, where the node is joined to it
asks_fair : (s : List Group) (n : Node) (x p : ℕ) (g : List ℕ) (start : ℕ) (bytes : List ℕ) (last : Bool) (mode : Mode) → Fits s n g start bytes last
    → Fair s s n (finished n (comes x p (Chunk g start bytes last))
    (asks_on mode p (with_line (grown_line (shelf_of (group_or_empty g n.groups)) (start + length bytes) last) (shelf n.groups))
    (keeps (begun n.control) start (adds_seal (shelf_of (group_or_empty g n.groups)) (start + length bytes) last))))
asks_fair s n x p g start bytes last mode fits = by_mode mode where
  k : Group
  k = group_or_empty g n.groups

  new : List Group
  new = with_group (with_new k start bytes last) n.groups

  names : List Shelf
  names = with_line (grown_line (shelf_of k) (start + length bytes) last) (shelf n.groups)

  kept : Plan
  kept = keeps (begun n.control) start (adds_seal (shelf_of k) (start + length bytes) last)

  still : Fair s s n (finished n (comes x p (Chunk g start bytes last)) kept)
  still = grown_fair s n x p g start bytes last (finished n (comes x p (Chunk g start bytes last)) kept) fits refl refl tt

  is_shelf : names ≡ shelf new
  is_shelf = ap (λ l. with_line l (shelf n.groups)) (sym (line-grown k start bytes last fits.within)) ∙ with_line-shelf (with_new k start bytes last) n.groups

  says_shelf : IsTrue s new (Fetch names)
  says_shelf = subst (λ ls. IsTrue s new (Fetch ls)) (sym is_shelf) (shelf_true s new (ascend-with_group (with_new k start bytes last) n.groups fits.ready.holds.ascend))

  by_mode : (m : Mode) → Fair s s n (finished n (comes x p (Chunk g start bytes last)) (asks_on m p names kept))
  by_mode (Joined q) = cond_both (q == p) (send kept p (Fetch names)) kept (λ o. Fair s s n (finished n (comes x p (Chunk g start bytes last)) o))
      (λ _. grown_fair s n x p g start bytes last (finished n (comes x p (Chunk g start bytes last)) (send kept p (Fetch names))) fits refl refl ((refl, says_shelf), tt))
      (λ _. still)
  by_mode Idle = still
  by_mode (Asking q) = still
  by_mode Acting = still

-- a chunk that does not go past the end of a sealed group ends within it
not_past : (k : Group) (end : ℕ) → (k.sealed && nat_lt (length k.bytes) end) ≡ false → k.sealed ≡ true → end ≤ length k.bytes
not_past k end e shut = ⊎_elim (λ unsealed. absurd (true≢false (sym shut ∙ unsealed))) (ltb-false (length k.bytes) end) (and_cases k.sealed (nat_lt (length k.bytes) end) e)

-- a true chunk for a group, as held or empty
chunk_to_fair : (s : List Group) (n : Node) (x p : ℕ) (g : List ℕ) (start : ℕ) (bytes : List ℕ) (last : Bool) → Ready s n → (n.control.me ≡ 1 → ⊥) → IsTrueOfSource s (Chunk g start bytes last)
    → Fair s s n (finished n (comes x p (Chunk g start bytes last)) (chunk_to (begun n.control) (shelf n.groups) p (shelf_of (group_or_empty g n.groups)) start (start + length bytes) last))
chunk_to_fair s n x p g start bytes last ready other chunk =
    cond_both (nat_lt (length k.bytes) start) (says o answers.Gap) (past (k.sealed && nat_lt (length k.bytes) end)) P
    (λ _. refused answers.Gap)
    (λ e. cond_both (k.sealed && nat_lt (length k.bytes) end) (says o answers.Sealed) (unless (limit ls k.name end) o taken) P
    (λ _. refused answers.Sealed)
    (λ f. limit_cases (λ l. P (unless l o taken)) ls k.name end
    (cond_both (adds ls (shelf_of k) end last) (asks_on n.control.kept.mode p (with_line (grown_line (shelf_of k) end last) ls) (keeps o start (adds_seal (shelf_of k) end last))) (ignored o) P
    (λ _. asks_fair s n x p g start bytes last n.control.kept.mode (record { ready = ready; other = other; chunk = chunk; within = ltb-false (length k.bytes) start e; ends = not_past k end f }))
    (λ _. refused answers.Ignored))
    (refused answers.Groups) (refused answers.TooLong))) where
      k : Group
      k = group_or_empty g n.groups

      end : ℕ
      end = start + length bytes

      ls : List Shelf
      ls = shelf n.groups

      o : Plan
      o = begun n.control

      P : Plan → Type 0
      P q = Fair s s n (finished n (comes x p (Chunk g start bytes last)) q)

      taken : Plan
      taken = keeps_chunk o ls p (shelf_of k) start end last

      past : Bool → Plan
      past b = if b then says o answers.Sealed else unless (limit ls k.name end) o taken

      refused : (a : Answer) → P (says o a)
      refused a = fair_still s n (finished n (comes x p (Chunk g start bytes last)) (says o a)) ready refl refl tt

-- a true chunk at any node
pub chunk_fair : (s : List Group) (n : Node) (x p : ℕ) (g : List ℕ) (start : ℕ) (bytes : List ℕ) (last : Bool) → Ready s n → IsTrueOfSource s (Chunk g start bytes last)
    → Fair s s n (finished n (comes x p (Chunk g start bytes last)) (took_chunk (begun n.control) (shelf n.groups) p g start bytes last))
chunk_fair s n x p g start bytes last ready chunk =
    let o : Plan = begun n.control in
    cond_both (n.control.me == 1) (ignored o) (chunk_to o (shelf n.groups) p (line_at g (shelf n.groups)) start (start + length bytes) last) (λ q. Fair s s n (finished n (comes x p (Chunk g start bytes last)) q))
    (λ _. fair_still s n (finished n (comes x p (Chunk g start bytes last)) (ignored o)) ready refl refl tt)
    (λ e. subst (λ l. Fair s s n (finished n (comes x p (Chunk g start bytes last)) (chunk_to o (shelf n.groups) p l start (start + length bytes) last))) (sym (line_at-shelf g n.groups))
    (chunk_to_fair s n x p g start bytes last ready (eqb-false n.control.me 1 e) chunk))
