-- The greatest merge: taking lines until none can be taken gives it, in whatever order lines are tried.
use Rattle.std.proofs.Common.{◌≡◌, ℕ, ◌<◌, true, Some, List, [], ◌∷◌, ◌++◌, slice_get, ⊎_elim, refl, ap, sym, subst, ◌∙◌, append_assoc, append-nil}
use Rattle.std.proofs.lemmas.Bool.{cases_eq, cases_order}
use Rattle.std.proofs.lemmas.List.{append_cancel_left}
use Rattle.oc_model.specs.declared.input.Input.{Input}
use Rattle.oc_model.specs.declared.input.Input.TheVariants.{Delivered}
use Rattle.oc_model.specs.declared.message.Message.{Message}
use Rattle.oc_model.specs.Node.{Header, new_node}
use Rattle.oc_model.specs.Numbers.{IsAmong}
use Rattle.oc_laws_world.specs.Merges.{Entry, Starts, Takes, Line, line, sent_by_all, entries_of, is_any, WasSent, CanCome, CanFollow, GoOn}
use Rattle.oc_laws_world.specs.Taking.{Records, CanBeTaken, AreTaken, IsFull, IsBeginning, IsFirst, AreInOrder}
use Rattle.oc_laws_world.proofs.MergeLists.{entries-append, entries_here, entries_there, sent_longer}

-- Prefixes

-- the first of two lists is empty where both in a row are
no_rest : (xs ys : List Entry) → xs ++ ys ≡ [] → xs ≡ []
no_rest [] ys e = refl
no_rest (x ∷ xs) ys e = absurd cc

-- two lists that are prefixes of each other are equal
begins_both : (xs ys : List Entry) → IsBeginning xs ys → IsBeginning ys xs → xs ≡ ys
begins_both xs ys there back =
    let round : xs ++ (there.0 ++ back.0) ≡ xs ++ [] = sym (append_assoc xs there.0 back.0) ∙ (ap (λ zs. zs ++ back.0) (sym there.1) ∙ (sym back.1 ∙ sym (append-nil xs))) in
    let none : there.0 ≡ [] = no_rest there.0 back.0 (append_cancel_left xs (there.0 ++ back.0) [] round) in
    sym (there.1 ∙ (ap (λ zs. xs ++ zs) none ∙ append-nil xs))

-- the entries so far are a prefix of those with one line more
line_more : (past : List Line) (l : Line) (x : ℕ) → IsBeginning (entries_of x past) (entries_of x (past ++ l ∷ []))
line_more past l x = (entries_of x (l ∷ []), entries-append x past (l ∷ []))

-- More lines

-- the lines b have, of each node, the entries of the lines a and perhaps more
abbrev HaveAll : List Line → List Line → Type 0
HaveAll a b = (x : ℕ) → IsBeginning (entries_of x a) (entries_of x b)

-- a message sent by fewer lines is sent by more
sent_wider : (h : Header) (a b : List Line) (m : Message) → HaveAll a b → WasSent h a m → WasSent h b m
sent_wider h a b m wider was =
    (was.0, was.1, subst (λ (es : List Entry). IsAmong m (sent_by_all (new_node h was.0) es)) (sym (wider was.0).1) (sent_longer (new_node h was.0) (entries_of was.0 a) (wider was.0).0 m was.2))

come_wider : (h : Header) (a b : List Line) (x : ℕ) (i : Input) → HaveAll a b → CanCome h a x i → CanCome h b x i
come_wider h a b x (Delivered m) wider can = (can.0, sent_wider h a b m wider can.1)
come_wider h a b x i wider can = tt

follow_wider : (h : Header) (a b : List Line) (x : ℕ) (e : Entry) → HaveAll a b → entries_of x a ≡ entries_of x b → CanFollow h a x e → CanFollow h b x e
follow_wider h a b x Starts wider same can = tt
follow_wider h a b x (Takes i) wider same can = (ap is_any (sym same) ∙ can.0, come_wider h a b x i wider can.1)

-- a line that can be taken after fewer lines can be taken after more, if none of the others is of its node
take_wider : (r : Records) (a b : List Line) (x : ℕ) (e : Entry) → HaveAll a b → entries_of x a ≡ entries_of x b → CanBeTaken r a x e → CanBeTaken r b x e
take_wider r a b x e wider same can = (
  can.0,
  (can.1.0, subst (λ (es : List Entry). entries_of x r.lines ≡ es ++ e ∷ can.1.0) same can.1.1),
  subst (λ (es : List Entry). r.fits x es e ≡ true) same can.2,
  follow_wider r.header a b x e wider same can.3,
)

-- taking one line never prevents a line of another node
pub take_stays : (r : Records) (taken : List Line) (x y : ℕ) (d e : Entry) → (x ≡ y → ⊥) → CanBeTaken r taken y e → CanBeTaken r (taken ++ line x d ∷ []) y e
take_stays r taken x y d e apart can =
    let l : Line = line x d in
    take_wider r taken (taken ++ l ∷ []) y e (line_more taken l) (sym (entries_there taken l y apart)) can

-- Complete takings

-- taken lines are a merge
pub taken_merge : (r : Records) (past ls : List Line) → AreTaken r past ls → GoOn r.header past ls
taken_merge r past [] taken = tt
taken_merge r past (l ∷ ls) taken = (taken.0.0, taken.0.3, taken_merge r (past ++ l ∷ []) ls taken.1)

-- a taken line keeps the entries of each node a prefix of the whole list
line_within : (past : List Line) (l : Line) (whole : ℕ → List Entry) → ((x : ℕ) → IsBeginning (entries_of x past) (whole x)) → (rest : List Entry) → whole l.node ≡ entries_of l.node past ++ l.entry ∷ rest
    → (x : ℕ) → IsBeginning (entries_of x (past ++ l ∷ [])) (whole x)
line_within past l whole within rest next x = ⊎_elim here there (cases_eq l.node x) where
  at_own : IsBeginning (entries_of l.node (past ++ l ∷ [])) (whole l.node)
  at_own = (rest, next ∙ (sym (append_assoc (entries_of l.node past) (l.entry ∷ []) rest) ∙ ap (λ es. es ++ rest) (sym (entries_here past l))))

  here : l.node ≡ x → IsBeginning (entries_of x (past ++ l ∷ [])) (whole x)
  here same = subst (λ (y : ℕ). IsBeginning (entries_of y (past ++ l ∷ [])) (whole y)) same at_own

  there : (l.node ≡ x → ⊥) → IsBeginning (entries_of x (past ++ l ∷ [])) (whole x)
  there apart = subst (λ (es : List Entry). IsBeginning es (whole x)) (sym (entries_there past l x apart)) (within x)

-- the entries taken of each node are a prefix of its record
pub taken_within : (r : Records) (past ls : List Line) → ((x : ℕ) → IsBeginning (entries_of x past) (entries_of x r.lines)) → AreTaken r past ls
    → (x : ℕ) → IsBeginning (entries_of x (past ++ ls)) (entries_of x r.lines)
taken_within r past [] within taken x = subst (λ (all : List Line). IsBeginning (entries_of x all) (entries_of x r.lines)) (sym (append-nil past)) (within x)
taken_within r past (l ∷ ls) within taken x =
    subst (λ (ms : List Line). IsBeginning (entries_of x ms) (entries_of x r.lines)) (append_assoc past (l ∷ []) ls)
    (taken_within r (past ++ l ∷ []) ls (line_within past l (λ y. entries_of y r.lines) within taken.0.1.0 taken.0.1.1) taken.1 x)

-- The greatest merge

module _ (r : Records) (most : List Line) (within : (x : ℕ) → IsBeginning (entries_of x most) (entries_of x r.lines)) (full : IsFull r most) where
  -- a line that can be taken after a part of the greatest merge is the next of its node there
  next_in_most : (past : List Line) (l : Line) → HaveAll past most → CanBeTaken r past l.node l.entry → (rest : List Entry) × (entries_of l.node most ≡ entries_of l.node past ++ l.entry ∷ rest)
  next_in_most past l below can = by_rest (below l.node).0 (below l.node).1 where
    own : List Entry
    own = entries_of l.node past

    by_rest : (more : List Entry) → entries_of l.node most ≡ own ++ more → (rest : List Entry) × (entries_of l.node most ≡ own ++ l.entry ∷ rest)
    by_rest [] is = absurd (full l.node l.entry (take_wider r past most l.node l.entry below (sym (is ∙ append-nil own)) can))
    by_rest (d ∷ more) is =
        let known : entries_of l.node r.lines ≡ own ++ (d ∷ more ++ (within l.node).0) = (within l.node).1 ∙ (ap (λ es. es ++ (within l.node).0) is ∙ append_assoc own (d ∷ more) (within l.node).0) in
        let same : d ∷ more ++ (within l.node).0 ≡ l.entry ∷ can.1.0 = append_cancel_left own (d ∷ more ++ (within l.node).0) (l.entry ∷ can.1.0) (sym known ∙ can.1.1) in
        let first : d ≡ l.entry = cc in
        (more, is ∙ ap (λ e. own ++ e ∷ more) first)

  pub takes_most : (past ls : List Line) → HaveAll past most → AreTaken r past ls → HaveAll (past ++ ls) most
  takes_most past [] below taken x = subst (λ (all : List Line). IsBeginning (entries_of x all) (entries_of x most)) (sym (append-nil past)) (below x)
  takes_most past (l ∷ ls) below taken x =
      let next : (rest : List Entry) × (entries_of l.node most ≡ entries_of l.node past ++ l.entry ∷ rest) = next_in_most past l below taken.0 in
      subst (λ (ms : List Line). IsBeginning (entries_of x ms) (entries_of x most)) (append_assoc past (l ∷ []) ls)
      (takes_most (past ++ l ∷ []) ls (line_within past l (λ y. entries_of y most) below next.0 next.1) taken.1 x)

-- a taking after which no line can be taken has all lines of any other taking
pub full_most : (r : Records) (most other : List Line) → AreTaken r [] most → IsFull r most → AreTaken r [] other → (x : ℕ) → IsBeginning (entries_of x other) (entries_of x most)
full_most r most other taken full tried = takes_most r most (taken_within r [] most (λ x. (entries_of x r.lines, refl)) taken) full [] other (λ x. (entries_of x most, refl)) tried

-- all takings after which no line can be taken have the same entries
pub full_one : (r : Records) (a b : List Line) → AreTaken r [] a → IsFull r a → AreTaken r [] b → IsFull r b → (x : ℕ) → entries_of x a ≡ entries_of x b
full_one r a b takes_a full_a takes_b full_b x = begins_both (entries_of x a) (entries_of x b) (full_most r b a takes_b full_b takes_a x) (full_most r a b takes_a full_a takes_b x)

-- The order of the input

-- lines in the order of the input are a taking
pub order_taking : (r : Records) (past ls : List Line) → AreInOrder r past ls → AreTaken r past ls
order_taking r past [] ordered = tt
order_taking r past (l ∷ ls) ordered = (ordered.0.1.can.2, order_taking r (past ++ l ∷ []) ls ordered.1)

-- only one line is the first
first_one : (r : Records) (taken : List Line) (i j : ℕ) (k l : Line) → IsFirst r taken i k → IsFirst r taken j l → k ≡ l
first_one r taken i j k l one other =
    ⊎_elim same (λ apart. ⊎_elim (λ (less : i < j). absurd (other.none_before i k less one.can)) (λ (more : j < i). absurd (one.none_before j l more other.can)) apart) (cases_order i j) where
      same : i ≡ j → k ≡ l
      same e =
          let here : Some k ≡ Some l = sym one.can.0 ∙ (ap (slice_get r.lines) e ∙ other.can.0) in
          cc

-- two takings in the order of the input after which no line can be taken are equal
pub order_one : (r : Records) (past a b : List Line) → AreInOrder r past a → IsFull r (past ++ a) → AreInOrder r past b → IsFull r (past ++ b) → a ≡ b
order_one r past [] [] first full_a second full_b = refl
order_one r past [] (l ∷ ls) first full_a second full_b = absurd (full_a l.node l.entry (subst (λ (ms : List Line). CanBeTaken r ms l.node l.entry) (sym (append-nil past)) second.0.1.can.2))
order_one r past (k ∷ ks) [] first full_a second full_b = absurd (full_b k.node k.entry (subst (λ (ms : List Line). CanBeTaken r ms k.node k.entry) (sym (append-nil past)) first.0.1.can.2))
order_one r past (k ∷ ks) (l ∷ ls) first full_a second full_b =
    let same : k ≡ l = first_one r past first.0.0 second.0.0 k l first.0.1 second.0.1 in
    let second_on : AreInOrder r (past ++ k ∷ []) ls = subst (λ (m : Line). AreInOrder r (past ++ m ∷ []) ls) (sym same) second.1 in
    let full_k : IsFull r ((past ++ k ∷ []) ++ ks) = subst (IsFull r) (sym (append_assoc past (k ∷ []) ks)) full_a in
    let full_l : IsFull r ((past ++ k ∷ []) ++ ls) = subst (λ (m : Line). IsFull r ((past ++ m ∷ []) ++ ls)) (sym same) (subst (IsFull r) (sym (append_assoc past (l ∷ []) ls)) full_b) in
    ap (λ (m : Line). m ∷ ks) same ∙ ap (λ (ms : List Line). l ∷ ms) (order_one r (past ++ k ∷ []) ks ls first.1 full_k second_on full_l)

-- the first line that can be taken may come next
pub order_more : (r : Records) (past ls : List Line) (place : ℕ) (l : Line) → AreInOrder r past ls → IsFirst r (past ++ ls) place l → AreInOrder r past (ls ++ l ∷ [])
order_more r past [] place l ordered first = ((place, subst (λ (ms : List Line). IsFirst r ms place l) (append-nil past) first), tt)
order_more r past (k ∷ ks) place l ordered first =
    (ordered.0, order_more r (past ++ k ∷ []) ks place l ordered.1 (subst (λ (ms : List Line). IsFirst r ms place l) (sym (append_assoc past (k ∷ []) ks)) first))
