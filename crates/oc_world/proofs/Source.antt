-- The source is the content of node 1: a step keeps this.
use Rattle.std.proofs.Common.{◌≡◌, ◌≢◌, ℕ, zero, suc, ◌+◌, ◌-◌, Bool, true, false, not, ◌&&◌, ◌||◌, ◌==◌, if◌then◌else◌, nat_lt, nat_le, Option, Some, None, option_map, is_some, List, [], ◌∷◌, ◌++◌, length, drop, Ordering, Less, Equal, Greater, nat_cmp, refl, ap, sym, subst, ◌∙◌, arith, true≢false, eq-eqb, ne_eqb, append-nil}
use Rattle.std.specs.Cmp.Lexicographic.{slice_cmp}
use Rattle.std.proofs.lemmas.Bool.{cond_both}
use Rattle.oc_base.specs.declared.group.Group.{Group}
use Rattle.oc_base.specs.declared.limits.TheConstants.{MAX_GROUPS, MAX_GROUP_BYTES}
use Rattle.oc_base.specs.declared.shelf.Shelf.{Shelf}
use Rattle.oc_base.specs.Groups.{AreAbove, IsAscending, group_of, group_or_empty, or_empty, shelf, shelf_of, with_group}
use Rattle.oc_base.specs.Named.{same_name}
use Rattle.oc_base.specs.Shelves.{line_of}
use Rattle.oc_base.proofs.NameOrder.{names_apart, names_back, names_rise, names_tied, same_name-itself}
use Rattle.oc_model.specs.declared.answer.Answer.TheVariants as answers
use Rattle.oc_model.specs.declared.input.Input.{Input}
use Rattle.oc_model.specs.declared.input.Input.TheVariants.{Tick, CheckNow, Relocate, Unreachable, Pull, Measured, Publish, Seal, Client, Delivered}
use Rattle.oc_model.specs.declared.message.Body.{Body}
use Rattle.oc_model.specs.declared.message.Body.TheVariants as bodies
use Rattle.oc_model.specs.Content.{answers_fetch, fetched, grows, keeps, publish_to, published, seal_line, sealed_at, took_chunk, unless}
use Rattle.oc_model.specs.Node.{Node}
use Rattle.oc_model.specs.Plan.{Plan, begun, ignored, answers as says}
use Rattle.oc_model.specs.Shelves.{next_behind, limit, line_at}
use Rattle.oc_model.specs.Step.{grown, kept_at, piece_of, plan, step}
use Rattle.oc_model.specs.World.{source_after}
use Rattle.oc_model.proofs.Rules.{IsClosed, either, keeps_asked, keeps_checked_in, keeps_checks, keeps_client, keeps_looked, keeps_measured, keeps_pulled, keeps_relocate, keeps_sees, keeps_tick, keeps_took_ack, keeps_took_no, keeps_took_rejoin, keeps_took_yes, keeps_unreachable}
use Rattle.oc_model.proofs.Shelves.{line_at-shelf, line_of-shelf}

-- a choice with a true part is true, and if a choice is false neither part is true
or_true : (b : Bool) → (b || true) ≡ true
or_true true = refl
or_true false = refl

left_false : (a b : Bool) → (a || b) ≡ false → a ≡ false
left_false true b e = e
left_false false b e = refl

drop_none : (n : ℕ) → drop {A = ℕ} n [] ≡ []
drop_none zero = refl
drop_none (suc n) = refl

-- no name is both below another and above it
less_both : (a b : List ℕ) → slice_cmp nat_cmp a b ≡ Less → slice_cmp nat_cmp b a ≡ Less → ⊥
less_both a b below above =
    let rise : slice_cmp nat_cmp a a ≡ Less = names_rise a b a below above in
    true≢false (sym (same_name-itself a) ∙ names_apart a a rise)

-- Groups

-- a group that is found among greater names has one
above_found : (n g : List ℕ) (k : Group) (is : List Group) → AreAbove n is → group_of g is ≡ Some k → slice_cmp nat_cmp n k.name ≡ Less
above_found n g k [] above e = absurd cc
above_found n g k (i ∷ is) above e = by_name (above_found n g k is above.1) (same_name g i.name) refl where
  by_name : (group_of g is ≡ Some k → slice_cmp nat_cmp n k.name ≡ Less) → (b : Bool) → same_name g i.name ≡ b → slice_cmp nat_cmp n k.name ≡ Less
  by_name rest true t = let same : Some i ≡ Some k = rw t at e in let is_k : i ≡ k = cc in subst (λ (m : Group). slice_cmp nat_cmp n m.name ≡ Less) is_k above.0
  by_name rest false t = rest (rw t at e)

-- a group that is put where it is changes nothing
pub put_itself : (g : List ℕ) (k : Group) (ks : List Group) → IsAscending ks → group_of g ks ≡ Some k → with_group k ks ≡ ks
put_itself g k [] up found = absurd cc
put_itself g k (j ∷ js) up found = by_test (put_itself g k js up.1) (same_name g j.name) refl where
  here : j ≡ k → (o : Ordering) → slice_cmp nat_cmp k.name j.name ≡ o → with_group k (j ∷ js) ≡ j ∷ js
  here same Equal e = rw e (ap (λ (i : Group). i ∷ js) (sym same))
  here same Less e =
      let apart : same_name j.name k.name ≡ false = names_apart k.name j.name e in
      absurd (cc (apart, ap (λ (i : Group). same_name j.name i.name) (sym same), same_name-itself j.name))
  here same Greater e =
      let apart : same_name k.name j.name ≡ false = names_apart j.name k.name (names_back k.name j.name e) in
      absurd (cc (apart, ap (λ (i : Group). same_name i.name j.name) (sym same), same_name-itself j.name))

  there : (group_of g js ≡ Some k → with_group k js ≡ js) → group_of g js ≡ Some k → (o : Ordering) → slice_cmp nat_cmp k.name j.name ≡ o → with_group k (j ∷ js) ≡ j ∷ js
  there again rest Greater e = rw e (ap (λ is. j ∷ is) (again rest))
  there again rest Equal e =
      let apart : same_name k.name j.name ≡ false = names_apart j.name k.name (above_found j.name g k js up.0 rest) in
      let tied : k.name ≡ j.name = names_tied k.name j.name e in
      absurd (cc (apart, ap (λ n. same_name n j.name) tied, same_name-itself j.name))
  there again rest Less e =
      absurd (less_both j.name k.name (above_found j.name g k js up.0 rest) e)

  by_test : (group_of g js ≡ Some k → with_group k js ≡ js) → (b : Bool) → same_name g j.name ≡ b → with_group k (j ∷ js) ≡ j ∷ js
  by_test again true e = let same : Some j ≡ Some k = rw e at found in let is_k : j ≡ k = cc in here is_k (slice_cmp nat_cmp k.name j.name) refl
  by_test again false e = there again (rw e at found) (slice_cmp nat_cmp k.name j.name) refl

-- Plans

-- the effect of a rule that keeps nothing
abbrev KeepsNone : Plan → Type 0
KeepsNone o = o.keeps ≡ None

none_closed : (ls : List Shelf) → IsClosed ls KeepsNone
none_closed ls = record { write = λ o r h. h; send = λ o p b plain h. h; answers = λ o a h. h; soft = λ o s e h. h; lists = λ o leases rates counts h. h }

-- for any answer of a node by this plan, a source that was its content is its content afterwards
abbrev IsOwned : Node → Input → Plan → Type 0
IsOwned n i o = source_after n.groups i o.answer ≡ kept_at o.keeps n.groups (piece_of i) o.seals

-- an input that neither publishes nor seals, and of which nothing is kept
owned_calm : (n : Node) (i : Input) (o : Plan) → source_after n.groups i o.answer ≡ n.groups → KeepsNone o → IsOwned n i o
owned_calm n i o still none = still ∙ ap (λ k. kept_at k n.groups (piece_of i) o.seals) (sym none)

-- Publish

grown_all : (k : Group) (bytes : List ℕ) → grown k (length k.bytes) bytes false ≡ record k { bytes = k.bytes ++ bytes }
grown_all k bytes =
    let none : length k.bytes - length k.bytes ≡ 0 = omega arith in
    let all : k.bytes ++ drop (length k.bytes - length k.bytes) bytes ≡ k.bytes ++ bytes = ap (λ n. k.bytes ++ drop n bytes) none in
    let closed : (k.sealed || false) ≡ k.sealed = by_test k.sealed in
    λ i. record { name = k.name; bytes = all i; sealed = closed i } where
      by_test : (b : Bool) → (b || false) ≡ b
      by_test true = refl
      by_test false = refl

-- a limit stops it, or not
by_limit : (P : Plan → Type 0) (o q : Plan) (ls : List Shelf) (g : List ℕ) (end : ℕ) → P q → P (says o answers.Groups) → P (says o answers.TooLong) → P (unless (limit ls g end) o q)
by_limit P o q ls g end none groups long = by_tests (not (is_some (line_of g ls)) && nat_le MAX_GROUPS (length ls)) (nat_lt MAX_GROUP_BYTES end) where
  by_tests : (a b : Bool) → P (unless (if a then Some answers.Groups else if b then Some answers.TooLong else None) o q)
  by_tests true b = groups
  by_tests false true = long
  by_tests false false = none

-- a publish that adds nothing
published_nothing : (n : Node) (g bytes : List ℕ) → IsAscending n.groups → grows (shelf n.groups) (group_or_empty g n.groups).name (length bytes) ≡ false → IsOwned n (Publish g bytes) (begun n.control)
published_nothing n g bytes up none = by_bytes bytes none where
  k : Group
  k = group_or_empty g n.groups

  whole : (j : Group) → record j { bytes = j.bytes ++ [] } ≡ j
  whole j = λ i. record { name = j.name; bytes = append-nil j.bytes i; sealed = j.sealed }

  by_found : (found : Option Group) → group_of g n.groups ≡ found → not (is_some (line_of k.name (shelf n.groups))) ≡ false → IsOwned n (Publish g []) (begun n.control)
  by_found None e some =
      let is : k ≡ or_empty g None = ap (or_empty g) e in
      let absent : line_of k.name (shelf n.groups) ≡ None = ap (λ (j : Group). line_of j.name (shelf n.groups)) is ∙ (line_of-shelf g n.groups ∙ ap (option_map shelf_of) e) in
      absurd (cc (some, ap (λ (l : Option Shelf). not (is_some l)) absent))
  by_found (Some j) e some =
      let is : k ≡ j = ap (or_empty g) e in
      ap (λ (i : Group). with_group i n.groups) (whole k ∙ is) ∙ put_itself g j n.groups up e

  by_bytes : (bs : List ℕ) → grows (shelf n.groups) k.name (length bs) ≡ false → IsOwned n (Publish g bs) (begun n.control)
  by_bytes [] e = by_found (group_of g n.groups) refl (left_false _ _ e)
  by_bytes (b ∷ bs) e =
      let some : (length (b ∷ bs) == 0) ≡ false = ne_eqb (length (b ∷ bs)) 0 (λ z. omega arith) in
      absurd (cc (sym (or_true (not (is_some (line_of k.name (shelf n.groups))))), rw some at e))

publish_owned : (n : Node) (g bytes : List ℕ) → IsAscending n.groups → IsOwned n (Publish g bytes) (published (begun n.control) (shelf n.groups) g bytes)
publish_owned n g bytes up =
    either (n.control.me == 1) P (publish_to o ls (line_at g ls) (length bytes)) (says o answers.NotSource)
    (subst (λ l. P (publish_to o ls l (length bytes))) (sym (line_at-shelf g n.groups)) to_group) refl where
      ls : List Shelf
      ls = shelf n.groups

      o : Plan
      o = begun n.control

      k : Group
      k = group_or_empty g n.groups

      P : Plan → Type 0
      P = IsOwned n (Publish g bytes)

      kept : Plan
      kept = if grows ls k.name (length bytes) then keeps o (length k.bytes) false else o

      to_group : P (publish_to o ls (shelf_of k) (length bytes))
      to_group =
          either k.sealed P (says o answers.Sealed) (unless (limit ls k.name (length k.bytes + length bytes)) o kept) refl
          (by_limit P o kept ls k.name (length k.bytes + length bytes)
          (cond_both (grows ls k.name (length bytes)) (keeps o (length k.bytes) false) o P
          (λ _. ap (λ (j : Group). with_group j n.groups) (sym (grown_all k bytes)))
          (λ e. published_nothing n g bytes up e)) refl refl)

-- Seal

seal_owned : (n : Node) (g : List ℕ) → IsOwned n (Seal g) (sealed_at (begun n.control) (shelf n.groups) g)
seal_owned n g =
    either (n.control.me == 1) P (seal_line o (line_of g ls)) (says o answers.NotSource)
    (subst (λ l. P (seal_line o l)) (sym (line_of-shelf g n.groups)) (by_found (group_of g n.groups) refl)) refl where
      ls : List Shelf
      ls = shelf n.groups

      o : Plan
      o = begun n.control

      P : Plan → Type 0
      P = IsOwned n (Seal g)

      closed : (k : Group) → record k { sealed = true } ≡ grown k (length k.bytes) [] true
      closed k =
          let none : drop {A = ℕ} (length k.bytes - length k.bytes) [] ≡ [] = drop_none (length k.bytes - length k.bytes) in
          let whole : k.bytes ≡ k.bytes ++ drop (length k.bytes - length k.bytes) [] = sym (ap (λ bs. k.bytes ++ bs) none ∙ append-nil k.bytes) in
          let shut : true ≡ (k.sealed || true) = sym (or_true k.sealed) in
          λ i. record { name = k.name; bytes = whole i; sealed = shut i }

      by_found : (found : Option Group) → group_of g n.groups ≡ found → P (seal_line o (option_map shelf_of found))
      by_found None e = refl
      by_found (Some k) e =
          let is : group_or_empty g n.groups ≡ k = ap (or_empty g) e in
          either k.sealed P (ignored o) (keeps o (length k.bytes) true) refl
          (ap (λ (j : Group). with_group (record j { sealed = true }) n.groups) is ∙ (ap (λ (j : Group). with_group j n.groups) (closed k)
          ∙ ap (λ (j : Group). with_group (grown j (length k.bytes) [] true) n.groups) (sym is)))

-- Every input at node 1

-- a message to x from p
abbrev comes : ℕ → ℕ → Body → Input
comes x p b = Delivered (record { from = p; to = x; body = b })

fetch_none : (n : Node) (p : ℕ) (have : List Shelf) → KeepsNone (fetched (begun n.control) (shelf n.groups) p have)
fetch_none n p have = by_found (next_behind n.control.chunk have (shelf n.groups)) where
  by_found : (found : Option Shelf) → KeepsNone (answers_fetch (begun n.control) p have found)
  by_found None = refl
  by_found (Some l) = refl

-- node 1 takes no chunk
chunk_none : (n : Node) (p : ℕ) (g : List ℕ) (start : ℕ) (bytes : List ℕ) (last : Bool) → n.control.me ≡ 1 → KeepsNone (took_chunk (begun n.control) (shelf n.groups) p g start bytes last)
chunk_none n p g start bytes last own = rw (eq-eqb n.control.me 1 own) refl

-- an input of which nothing is kept
none_owned : (n : Node) (i : Input) → source_after n.groups i (plan n.control (shelf n.groups) i).answer ≡ n.groups → KeepsNone (plan n.control (shelf n.groups) i) → IsOwned n i (plan n.control (shelf n.groups) i)
none_owned n i still none = owned_calm n i (plan n.control (shelf n.groups) i) still none

received_none : (n : Node) (x p : ℕ) (b : Body) → n.control.me ≡ 1 → KeepsNone (plan n.control (shelf n.groups) (comes x p b))
received_none n x p bodies.Look own = keeps_looked (shelf n.groups) KeepsNone (none_closed (shelf n.groups)) (begun n.control) p refl
received_none n x p (bodies.LookIs is_in parent rate children) own =
    keeps_sees (shelf n.groups) KeepsNone (none_closed (shelf n.groups)) (begun n.control) p (record { in_tree = is_in; parent = parent; rate = rate; children = children }) refl
received_none n x p (bodies.Ask seq rank) own = keeps_asked (shelf n.groups) KeepsNone (none_closed (shelf n.groups)) (begun n.control) p seq rank refl
received_none n x p (bodies.Yes seq rank ancestors) own = keeps_took_yes (shelf n.groups) KeepsNone (none_closed (shelf n.groups)) (begun n.control) p seq rank ancestors refl
received_none n x p (bodies.No seq why) own = keeps_took_no (shelf n.groups) KeepsNone (none_closed (shelf n.groups)) (begun n.control) p seq why refl
received_none n x p (bodies.CheckIn seq upto rate number clients certs) own =
    keeps_checked_in (shelf n.groups) KeepsNone (none_closed (shelf n.groups)) (begun n.control) p seq upto rate number clients certs refl
received_none n x p (bodies.CheckAck seq upto rank ancestors) own = keeps_took_ack (shelf n.groups) KeepsNone (none_closed (shelf n.groups)) (begun n.control) p seq upto rank ancestors refl
received_none n x p (bodies.Rejoin seq) own = keeps_took_rejoin (shelf n.groups) KeepsNone (none_closed (shelf n.groups)) (begun n.control) p seq refl
received_none n x p (bodies.Fetch have) own = fetch_none n p have
received_none n x p (bodies.Chunk g start bytes last) own = chunk_none n p g start bytes last own

-- the source after an input to node 1 is its content then
pub step_owned : (n : Node) (i : Input) → n.control.me ≡ 1 → IsAscending n.groups → source_after n.groups i (step n i).answer ≡ (step n i).node.groups
step_owned n (Tick t) own up = none_owned n (Tick t) refl (keeps_tick (shelf n.groups) KeepsNone (none_closed (shelf n.groups)) (begun n.control) t refl)
step_owned n CheckNow own up = none_owned n CheckNow refl (keeps_checks (shelf n.groups) KeepsNone (none_closed (shelf n.groups)) (begun n.control) refl)
step_owned n (Relocate p) own up = none_owned n (Relocate p) refl (keeps_relocate (shelf n.groups) KeepsNone (none_closed (shelf n.groups)) (begun n.control) p refl)
step_owned n (Unreachable p) own up = none_owned n (Unreachable p) refl (keeps_unreachable (shelf n.groups) KeepsNone (none_closed (shelf n.groups)) (begun n.control) p refl)
step_owned n (Pull p) own up = none_owned n (Pull p) refl (keeps_pulled (shelf n.groups) KeepsNone (none_closed (shelf n.groups)) (begun n.control) p refl)
step_owned n (Measured p rate hops) own up = none_owned n (Measured p rate hops) refl (keeps_measured (shelf n.groups) KeepsNone (none_closed (shelf n.groups)) (begun n.control) p rate hops refl)
step_owned n (Publish g bytes) own up = publish_owned n g bytes up
step_owned n (Seal g) own up = seal_owned n g
step_owned n (Client area start g) own up = none_owned n (Client area start g) refl (keeps_client (shelf n.groups) KeepsNone (none_closed (shelf n.groups)) (begun n.control) area start g refl)
step_owned n (Delivered m) own up = none_owned n (Delivered m) refl (received_none n m.to m.from m.body own)

-- no other node changes the source
pub step_elsewhere : (s : List Group) (n : Node) (i : Input) → n.control.me ≢ 1 → source_after s i (step n i).answer ≡ s
step_elsewhere s n (Publish g bytes) away = rw (ne_eqb n.control.me 1 away) refl
step_elsewhere s n (Seal g) away = rw (ne_eqb n.control.me 1 away) refl
step_elsewhere s n (Tick t) away = refl
step_elsewhere s n CheckNow away = refl
step_elsewhere s n (Relocate p) away = refl
step_elsewhere s n (Unreachable p) away = refl
step_elsewhere s n (Pull p) away = refl
step_elsewhere s n (Measured p rate hops) away = refl
step_elsewhere s n (Client area start g) away = refl
step_elsewhere s n (Delivered m) away = refl
