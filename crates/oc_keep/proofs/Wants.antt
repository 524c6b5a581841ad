-- The bytes of the content that a step wants to send: they are held.
use Rattle.std.proofs.Common.{◌≡◌, ◌⊎◌, inl, inr, ⊎_elim, ℕ, ◌+◌, ◌<◌, ◌≤◌, IfSome, Bool, true, false, ◌==◌, nat_lt, if◌then◌else◌, Option, Some, None, List, [], ◌∷◌, length, Less, nat_cmp, refl, sym, subst, ◌∙◌, arith}
use Rattle.std.specs.Cmp.Lexicographic.{slice_cmp}
use Rattle.std.proofs.lemmas.Bool.{cond_both}
use Rattle.std.proofs.lemmas.Bool.Decides.{nat_tests}
use Rattle.oc_base.specs.declared.shelf.Shelf.{Shelf}
use Rattle.oc_base.specs.Named.{same_name}
use Rattle.oc_base.specs.Shelves.{line_of, AreLines, AreLinesAbove, IsShelf}
use Rattle.oc_base.proofs.NameOrder.{same_name-itself, names_apart}
use Rattle.oc_model.specs.declared.answer.Answer.TheVariants as words
use Rattle.oc_model.specs.declared.input.Input.{Input}
use Rattle.oc_model.specs.declared.input.Input.TheVariants as inputs
use Rattle.oc_model.specs.declared.message.Body.{Body}
use Rattle.oc_model.specs.declared.message.Body.TheVariants as bodies
use Rattle.oc_model.specs.declared.mode.Mode.{Mode}
use Rattle.oc_model.specs.declared.mode.Mode.TheVariants as modes
use Rattle.oc_model.specs.declared.want.Want.{Want}
use Rattle.oc_model.specs.declared.answer.Answer.{Answer}
use Rattle.oc_model.specs.Content.{unless, keeps, grows, publish_to, seal_line, count_from, wanted, answers_fetch, adds_seal, adds, grown_line, asks_on, chunk_to}
use Rattle.oc_model.specs.Node.{Control}
use Rattle.oc_model.specs.Numbers as numbers
use Rattle.oc_model.specs.Plan.{Plan, answers, begun, ignored}
use Rattle.oc_model.specs.Shelves.{line_at, with_line, limit, next_behind}
use Rattle.oc_model.specs.Step.{plan, received}
use Rattle.oc_model.proofs.Shelves.{next-among}
use Rattle.oc_laws_step.proofs.Adopts.{goes_asked}
use Rattle.oc_laws_step.proofs.Asks.{goes_took_yes, goes_took_no, goes_unreachable, goes_relocate}
use Rattle.oc_laws_step.proofs.Checks.{goes_checks, goes_tick, goes_checked_in, goes_took_ack, goes_took_rejoin}
use Rattle.oc_laws_step.proofs.Goes.{Goes, either}
use Rattle.oc_laws_step.proofs.Looks.{goes_looked, goes_sees}
use Rattle.oc_laws_step.proofs.Serves.{goes_client, goes_measured}
use Rattle.oc_laws_step.proofs.Steps.{goes_pulled}
use Rattle.oc_keep.specs.Puts.{CanWant}

-- The line of the sent bytes

-- a line found among these is the line of its name, and is above the lines before
record IsAmong (ls : List Shelf) (l : Shelf) : Type 0 where
  its : line_of l.group ls ≡ Some l
  above : (g : List ℕ) → AreLinesAbove g ls → slice_cmp nat_cmp g l.group ≡ Less

abbrev IfAmong : List Shelf → Option Shelf → Type 0
IfAmong ls None = Unit {0}
IfAmong ls (Some l) = IsAmong ls l

-- one more line at the front
among_more : (k : Shelf) (ls : List Shelf) (l : Option Shelf) → AreLinesAbove k.group ls → IfAmong ls l → IfAmong (k ∷ ls) l
among_more k ls None up h = tt
among_more k ls (Some l) up h =
    let other : same_name l.group k.group ≡ false = names_apart k.group l.group (h.above k.group up) in
    record { its = rw other h.its; above = λ g all. h.above g all.1 }

line_among : (l : Shelf) (ls : List Shelf) → AreLines ls → numbers.IsAmong l ls → IsAmong ls l
line_among l [] all h = absurd h
line_among l (k ∷ ks) all (inl e) = subst (IsAmong (k ∷ ks)) e record { its = rw (same_name-itself k.group) refl; above = λ g above. above.0 }
line_among l (k ∷ ks) all (inr h) = among_more k ks (Some l) all.1 (line_among l ks all.2 h)

behind_among : (chunk : ℕ) (have ls : List Shelf) → AreLines ls → IfAmong ls (next_behind chunk have ls)
behind_among chunk have ls all = by_found (next_behind chunk have ls) refl where
  by_found : (found : Option Shelf) → next_behind chunk have ls ≡ found → IfAmong ls found
  by_found None e = tt
  by_found (Some l) e = line_among l ls all (next-among chunk have ls l e)

-- the wanted bytes of a line are within it
want_held : (most : ℕ) (ls : List Shelf) (l : Shelf) (start : ℕ) → IsAmong ls l → CanWant ls (wanted l start (count_from most l start))
want_held most ls l start among = by_test (count_from most l start == 0) refl where
  by_test : (b : Bool) → (count_from most l start == 0) ≡ b → CanWant ls (if b then None else Some (record { group = l.group; start = start; count = count_from most l start }))
  by_test true e = tt
  by_test false e =
      let some : 0 < count_from most l start = grind (arith, nat_tests) in
      record { line = l; there = among.its; within = omega (arith, some) }

-- the wanted bytes are at most a chunk
abbrev IsFew : ℕ → Option Want → Type 0
IsFew most w = IfSome w (λ x. x.count ≤ most)

want_few : (most : ℕ) (l : Shelf) (start : ℕ) → IsFew most (wanted l start (count_from most l start))
want_few most l start = cond_both (count_from most l start == 0) None (Some (record { group = l.group; start = start; count = count_from most l start })) (IsFew most) (λ _. tt) (λ _. omega arith)

-- a step that answers a fetch from a node with these lines
record AnswersFetch (ls : List Shelf) (n : Control) (q : Plan) : Type 0 where
  to : ℕ
  have : List Shelf
  is : q ≡ answers_fetch (begun n) to have (next_behind n.chunk have ls)

fetch_wants : (ls have : List Shelf) (n : Control) (p : ℕ) (l : Option Shelf) → IfAmong ls l → CanWant ls (answers_fetch (begun n) p have l).wants
fetch_wants ls have n p None among = tt
fetch_wants ls have n p (Some l) among = want_held n.chunk ls l (line_at l.group have).held among

fetch_few : (have : List Shelf) (n : Control) (p : ℕ) (l : Option Shelf) → IsFew n.chunk (answers_fetch (begun n) p have l).wants
fetch_few have n p None = tt
fetch_few have n p (Some l) = want_few n.chunk l (line_at l.group have).held

-- such a step writes nothing
fetch_alone : (have : List Shelf) (n : Control) (p : ℕ) (l : Option Shelf) → ((answers_fetch (begun n) p have l).records ≡ []) × ((answers_fetch (begun n) p have l).keeps ≡ None)
fetch_alone have n p None = (refl, refl)
fetch_alone have n p (Some l) = (refl, refl)

-- The rules

-- every other rule wants no bytes
nothing_wanted : (ls : List Shelf) (e k : ℕ) (n : Control) (q : Plan) → Goes e k (begun n) q → (q.wants ≡ None) ⊎ AnswersFetch ls n q
nothing_wanted ls e k n q h = inl h.by.wants

-- the rule wants no bytes
abbrev WantsNone : Plan → Type 0
WantsNone q = q.wants ≡ None

-- the rules that keep content want no bytes
module _ (ls : List Shelf) where
  unless_wants : (a : Option Answer) (o q : Plan) → WantsNone o → WantsNone q → WantsNone (unless a o q)
  unless_wants None o q h k = k
  unless_wants (Some a) o q h k = h

  publish_wants : (o : Plan) (l : Shelf) (count : ℕ) → WantsNone o → WantsNone (publish_to o ls l count)
  publish_wants o l count h =
      either l.sealed WantsNone (answers o words.Sealed) _ h
      (unless_wants (limit ls l.group (l.held + count)) o _ h (either (grows ls l.group count) WantsNone (keeps o l.held false) o h h))

  seal_wants : (o : Plan) (l : Option Shelf) → WantsNone o → WantsNone (seal_line o l)
  seal_wants o None h = h
  seal_wants o (Some l) h = either l.sealed WantsNone (ignored o) (keeps o l.held true) h h

  asks_wants : (m : Mode) (p : ℕ) (shelf : List Shelf) (q : Plan) → WantsNone q → WantsNone (asks_on m p shelf q)
  asks_wants modes.Idle p shelf q h = h
  asks_wants (modes.Asking r) p shelf q h = h
  asks_wants (modes.Joined r) p shelf q h = either (r == p) WantsNone _ q h h
  asks_wants modes.Acting p shelf q h = h

  chunk_wants : (o : Plan) (p : ℕ) (l : Shelf) (start end : ℕ) (last : Bool) → WantsNone o → WantsNone (chunk_to o ls p l start end last)
  chunk_wants o p l start end last h =
      either (nat_lt l.held start) WantsNone (answers o words.Gap) _ h
      (either _ WantsNone (answers o words.Sealed) _ h
      (unless_wants (limit ls l.group end) o _ h
      (either (adds ls l end last) WantsNone _ (ignored o) (asks_wants o.node.kept.mode p (with_line (grown_line l end last) ls) (keeps o start (adds_seal l end last)) h) h)))

-- a message wants no bytes, or is a fetch
received_wants : (n : Control) (ls : List Shelf) (p : ℕ) (b : Body) → ((received (begun n) ls p b).wants ≡ None) ⊎ AnswersFetch ls n (received (begun n) ls p b)
received_wants n ls p bodies.Look = nothing_wanted ls 0 0 n _ (goes_looked (begun n) p)
received_wants n ls p (bodies.LookIs is_in parent rate children) = nothing_wanted ls 0 2 n _ (goes_sees (begun n) p (record { in_tree = is_in; parent = parent; rate = rate; children = children }))
received_wants n ls p (bodies.Ask seq rank) = nothing_wanted ls 1 1 n _ (goes_asked (begun n) p seq rank)
received_wants n ls p (bodies.Yes seq rank ancestors) = nothing_wanted ls 0 2 n _ (goes_took_yes (begun n) p seq rank ancestors)
received_wants n ls p (bodies.No seq why) = nothing_wanted ls 0 3 n _ (goes_took_no (begun n) p seq why)
received_wants n ls p (bodies.CheckIn seq upto rate number clients certs) = nothing_wanted ls (length certs + 1) 0 n _ (goes_checked_in (begun n) p seq upto rate number clients certs)
received_wants n ls p (bodies.CheckAck seq upto rank ancestors) = nothing_wanted ls 0 3 n _ (goes_took_ack (begun n) p seq upto rank ancestors)
received_wants n ls p (bodies.Rejoin seq) = nothing_wanted ls 0 1 n _ (goes_took_rejoin (begun n) p seq)
received_wants n ls p (bodies.Fetch have) = inr (record { to = p; have = have; is = refl })
received_wants n ls p (bodies.Chunk g start bytes last) =
    inl (either (n.me == 1) WantsNone (ignored (begun n)) (chunk_to (begun n) ls p (line_at g ls) start (start + length bytes) last)
    refl (chunk_wants ls (begun n) p (line_at g ls) start (start + length bytes) last refl))

-- a step wants no bytes, or answers a fetch
step_wants : (n : Control) (ls : List Shelf) (i : Input) → ((plan n ls i).wants ≡ None) ⊎ AnswersFetch ls n (plan n ls i)
step_wants n ls (inputs.Tick t) = nothing_wanted ls (length n.kept.table) 2 n _ (goes_tick (begun n) ls t)
step_wants n ls inputs.CheckNow = nothing_wanted ls 0 2 n _ (goes_checks (begun n))
step_wants n ls (inputs.Relocate p) = nothing_wanted ls 0 1 n _ (goes_relocate (begun n) p)
step_wants n ls (inputs.Unreachable p) = nothing_wanted ls 0 3 n _ (goes_unreachable (begun n) p)
step_wants n ls (inputs.Pull p) = nothing_wanted ls 0 0 n _ (goes_pulled (begun n) ls p)
step_wants n ls (inputs.Measured p rate hops) = nothing_wanted ls 0 1 n _ (goes_measured (begun n) p rate hops)
step_wants n ls (inputs.Publish g bytes) =
    inl (either (n.me == 1) WantsNone (publish_to (begun n) ls (line_at g ls) (length bytes)) (answers (begun n) words.NotSource)
    (publish_wants ls (begun n) (line_at g ls) (length bytes) refl) refl)
step_wants n ls (inputs.Seal g) =
    inl (either (n.me == 1) WantsNone (seal_line (begun n) (line_of g ls)) (answers (begun n) words.NotSource) (seal_wants ls (begun n) (line_of g ls) refl) refl)
step_wants n ls (inputs.Client area start g) = nothing_wanted ls 0 0 n _ (goes_client (begun n) ls area start g)
step_wants n ls (inputs.Delivered m) = received_wants n ls m.from m.body

-- the wanted bytes of a step are held
pub wants_held : (n : Control) (ls : List Shelf) (i : Input) → IsShelf ls → CanWant ls (plan n ls i).wants
wants_held n ls i ok = ⊎_elim none fetch (step_wants n ls i) where
  none : (plan n ls i).wants ≡ None → CanWant ls (plan n ls i).wants
  none h = subst (λ (w : Option Want). CanWant ls w) (sym h) tt

  fetch : AnswersFetch ls n (plan n ls i) → CanWant ls (plan n ls i).wants
  fetch f = subst (λ (q : Plan). CanWant ls q.wants) (sym f.is) (fetch_wants ls f.have n f.to (next_behind n.chunk f.have ls) (behind_among n.chunk f.have ls ok.0))

-- the wanted bytes of a step are at most the node's chunk
pub wants_few : (n : Control) (ls : List Shelf) (i : Input) → IfSome (plan n ls i).wants (λ w. w.count ≤ n.chunk)
wants_few n ls i = ⊎_elim none fetch (step_wants n ls i) where
  none : (plan n ls i).wants ≡ None → IsFew n.chunk (plan n ls i).wants
  none h = subst (λ (w : Option Want). IsFew n.chunk w) (sym h) tt

  fetch : AnswersFetch ls n (plan n ls i) → IsFew n.chunk (plan n ls i).wants
  fetch f = subst (λ (q : Plan). IsFew n.chunk q.wants) (sym f.is) (fetch_few f.have n f.to (next_behind n.chunk f.have ls))

-- a step that wants bytes writes nothing
pub wants_alone : (n : Control) (ls : List Shelf) (i : Input) (w : Want) → (plan n ls i).wants ≡ Some w → ((plan n ls i).records ≡ []) × ((plan n ls i).keeps ≡ None)
wants_alone n ls i w wants = ⊎_elim none fetch (step_wants n ls i) where
  none : (plan n ls i).wants ≡ None → ((plan n ls i).records ≡ []) × ((plan n ls i).keeps ≡ None)
  none h = let no : None ≡ Some w = sym h ∙ wants in absurd cc

  fetch : AnswersFetch ls n (plan n ls i) → ((plan n ls i).records ≡ []) × ((plan n ls i).keeps ≡ None)
  fetch f = subst (λ (q : Plan). (q.records ≡ []) × (q.keeps ≡ None)) (sym f.is) (fetch_alone f.have n f.to (next_behind n.chunk f.have ls))
