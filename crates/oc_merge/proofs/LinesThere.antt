-- Which lines are there, found one after another.
use Rattle.std.proofs.Common.{◌≡◌, ◌≢◌, ℕ, zero, suc, ◌+◌, ◌-◌, ◌<◌, ◌≤◌, Bool, true, false, ◌==◌, if◌then◌else◌, Option, Some, None, option_map, Result, Ok, Err, IfOk, OnOk, List, [], ◌∷◌, ◌++◌, inl, inr, ⊎_elim, length, map, take, drop, reverse, slice_get, slice_set, get_or, refl, ap, sym, subst, ◌∙◌, arith, add-one, append_assoc, length-append, length-drop, take_at}
use Rattle.std.specs.List.{AllByRecursion}
use Rattle.std.proofs.Math.ListN.{length-set}
use Rattle.std.proofs.lemmas.Bool.{cases_Bool, cases_eq, ne_eqb}
use Rattle.std.proofs.lemmas.List.{drop-drop, reverse-append, get_or-set_same, get_or-set_other}
use Rattle.std.proofs.lemmas.Option.{slice_get_within}
use Rattle.oc_base.specs.Lawful.{IsNode}
use Rattle.oc_laws_step.proofs.Goes.{IsSame}
use Rattle.oc_laws_step.proofs.Steps.{writes}
use Rattle.oc_base.specs.Groups.{shelf}
use Rattle.oc_model.specs.declared.input.Input.{Input}
use Rattle.oc_model.specs.declared.input.Input.TheVariants.{Delivered}
use Rattle.oc_model.specs.Node.{Node, new_node, restarted}
use Rattle.oc_model.specs.Step.{step}
use Rattle.oc_merge.specs.declared.told.Told.{Told}
use Rattle.oc_merge.specs.declared.told.Told.TheVariants.{Started, Came, Took}
use Rattle.oc_merge.specs.declared.told.ToldLine.{ToldLine}
use Rattle.oc_merge.specs.Folds.{AreFoldsAt, AfterLine, IsOfNetwork, after_any, after_either, after_input, after_line, nothing_more, there_from}
use Rattle.oc_merge.specs.Heads.{AreNextPlaces, before_own}
use Rattle.oc_merge.specs.Recorded.{are_there, found_after, is_missed, is_there, message_of, no_message, own_there, own_told, picked}
use Rattle.oc_merge.specs.Told.{Records}
use Rattle.oc_merge.proofs.Fronts.{drop_at_place}
use Rattle.oc_merge.proofs.Going.{before_none, before_within}
use Rattle.oc_merge.proofs.Own.{own-append, own_first}
use Rattle.oc_merge.proofs.Ways.{strange_bytes}
use Rattle.oc_model.specs.declared.message.Message.{Message}
use Rattle.oc_wire.specs.declared.fault.WireFault.{WireFault}
use Rattle.oc_wire.specs.declared.fault.WireFault.TheVariants as faults
use Rattle.oc_wire.specs.MessageReading.{Gives, decoded}

-- One line

-- where a start comes next, a node is as good as the one started again
started_same : (digest : Node → List ℕ) (nodes x : ℕ) (n : Node) (ts : List Told) (digits : List ℕ) → found_after ts ≡ Some digits → own_there digest nodes x n ts ≡ own_there digest nodes x (restarted n) ts
started_same digest nodes x n [] digits e = absurd (cc e)
started_same digest nodes x n (Started files ∷ ts) digits e = refl
started_same digest nodes x n (Came bytes ∷ ts) digits e = absurd (cc e)
started_same digest nodes x n (Took i ∷ ts) digits e = absurd (cc e)

input_there : (digest : Node → List ℕ) (nodes x : ℕ) (n : Node) (i : Input) (ts : List Told) (found : Option (List ℕ)) → found_after ts ≡ found
    → (if is_missed digest n i found then false ∷ own_there digest nodes x n ts else true ∷ own_there digest nodes x (step n i).node ts)
    ≡ (after_input digest n i found).there ∷ there_from digest nodes x (after_input digest n i found).node ts
input_there digest nodes x n i ts None e = refl
input_there digest nodes x n i ts (Some digits) e = by_test (is_missed digest n i (Some digits)) where
  by_test : (b : Bool) → (if b then false ∷ own_there digest nodes x n ts else true ∷ own_there digest nodes x (step n i).node ts)
      ≡ (after_either b n (step n i).node).there
      ∷ there_from digest nodes x (after_either b n (step n i).node).node ts
  by_test true = ap (λ bs. false ∷ bs) (started_same digest nodes x n ts digits e)
  by_test false = refl

line_there : (digest : Node → List ℕ) (nodes x : ℕ) (n : Node) (t : Told) (ts : List Told)
    → own_there digest nodes x n (t ∷ ts) ≡ (after_line digest nodes x n t (found_after ts)).there ∷ there_from digest nodes x (after_line digest nodes x n t (found_after ts)).node ts
line_there digest nodes x n (Started files) ts = refl
line_there digest nodes x n (Took i) ts = input_there digest nodes x n i ts (found_after ts) refl
line_there digest nodes x n (Came bytes) ts = by_test ((message_of nodes bytes).to == x) where
  found : Option (List ℕ)
  found = found_after ts

  i : Input
  i = Delivered (message_of nodes bytes)

  by_test : (b : Bool) → (if b then (if is_missed digest n i found then false ∷ own_there digest nodes x n ts else true ∷ own_there digest nodes x (step n i).node ts) else true ∷ map (λ t. true) ts)
      ≡ (if b then after_input digest n i found else nothing_more).there
      ∷ there_from digest nodes x (if b then after_input digest n i found else nothing_more).node ts
  by_test true = input_there digest nodes x n i ts found refl
  by_test false = refl

any_there : (digest : Node → List ℕ) (nodes x : ℕ) (n : Option Node) (t : Told) (ts : List Told)
    → there_from digest nodes x n (t ∷ ts) ≡ (after_any digest nodes x n t (found_after ts)).there ∷ there_from digest nodes x (after_any digest nodes x n t (found_after ts)).node ts
any_there digest nodes x None t ts = refl
any_there digest nodes x (Some n) t ts = line_there digest nodes x n t ts

-- The network of a node stays

step_network : (nodes x : ℕ) (n : Node) (i : Input) → IsOfNetwork nodes x (Some n) → IsOfNetwork nodes x (Some (step n i).node)
step_network nodes x n i of =
    let same : IsSame n.control (step n i).node.control = (writes n.control (shelf n.groups) i).same in
    (same.nodes ∙ of.0, same.me ∙ of.1)

input_network : (digest : Node → List ℕ) (nodes x : ℕ) (n : Node) (i : Input) (found : Option (List ℕ)) → IsOfNetwork nodes x (Some n) → IsOfNetwork nodes x (after_input digest n i found).node
input_network digest nodes x n i found of = by_test (is_missed digest n i found) where
  by_test : (b : Bool) → IsOfNetwork nodes x (after_either b n (step n i).node).node
  by_test true = of
  by_test false = step_network nodes x n i of

any_network : (digest : Node → List ℕ) (nodes x : ℕ) (n : Option Node) (t : Told) (found : Option (List ℕ)) → IsOfNetwork nodes x n → IsOfNetwork nodes x (after_any digest nodes x n t found).node
any_network digest nodes x None t found of = tt
any_network digest nodes x (Some n) (Started files) found of = of
any_network digest nodes x (Some n) (Took i) found of = input_network digest nodes x n i found of
any_network digest nodes x (Some n) (Came bytes) found of = by_test ((message_of nodes bytes).to == x) where
  by_test : (b : Bool) → IsOfNetwork nodes x (if b then after_input digest n (Delivered (message_of nodes bytes)) found else nothing_more).node
  by_test true = input_network digest nodes x n (Delivered (message_of nodes bytes)) found of
  by_test false = tt

-- Lists

head_is : (bs : List Bool) (k : ℕ) (b : Bool) (rest : List Bool) → drop k bs ≡ b ∷ rest → get_or bs k true ≡ b
head_is [] zero b rest e = absurd (cc e)
head_is [] (suc k) b rest e = absurd (cc e)
head_is (c ∷ cs) zero b rest e = cc e
head_is (c ∷ cs) (suc k) b rest e = head_is cs k b rest e

tail_is : (bs : List Bool) (k : ℕ) (b : Bool) (rest : List Bool) → drop k bs ≡ b ∷ rest → drop (suc k) bs ≡ rest
tail_is [] zero b rest e = absurd (cc e)
tail_is [] (suc k) b rest e = absurd (cc e)
tail_is (c ∷ cs) zero b rest e = cc e
tail_is (c ∷ cs) (suc k) b rest e = tail_is cs k b rest e

take_at_place : (ls : List ToldLine) (p : ℕ) (l : ToldLine) → slice_get ls p ≡ Some l → take (suc p) ls ≡ take p ls ++ l ∷ []
take_at_place [] p l at = absurd (cc at)
take_at_place (k ∷ ks) zero l at = ap (λ (j : ToldLine). j ∷ []) (cc at)
take_at_place (k ∷ ks) (suc p) l at = ap (λ (js : List ToldLine). k ∷ js) (take_at_place ks p l at)

own_here : (x : ℕ) (ls : List ToldLine) (p : ℕ) (l : ToldLine) → slice_get ls p ≡ Some l → l.node ≡ x → length (own_told x (take (suc p) ls)) ≡ suc (length (own_told x (take p ls)))
own_here x ls p l at is =
    ap (λ (ks : List ToldLine). length (own_told x ks)) (take_at_place ls p l at)
    ∙ (ap length (own-append x (take p ls) (l ∷ []) ∙ ap (λ (ts : List Told). own_told x (take p ls) ++ ts) (own_first x l [] is))
    ∙ (length-append (own_told x (take p ls)) (l.told ∷ []) ∙ add-one (length (own_told x (take p ls)))))

own_other : (x : ℕ) (l : ToldLine) (ls : List ToldLine) → (l.node ≡ x → ⊥) → own_told x (l ∷ ls) ≡ own_told x ls
own_other x l ls apart = ap (λ b. if b then l.told ∷ own_told x ls else own_told x ls) (ne_eqb l.node x apart)

own_there_take : (x : ℕ) (ls : List ToldLine) (p : ℕ) (l : ToldLine) → slice_get ls p ≡ Some l → (l.node ≡ x → ⊥) → length (own_told x (take (suc p) ls)) ≡ length (own_told x (take p ls))
own_there_take x [] p l at apart = absurd (cc at)
own_there_take x (k ∷ ks) zero l at apart =
    let same : k ≡ l = cc at in
    ap length (own_other x k [] (λ e. apart (sym (ap (λ (j : ToldLine). j.node) same) ∙ e)))
own_there_take x (k ∷ ks) (suc p) l at apart = by_test (k.node == x) (own_there_take x ks p l at apart) where
  by_test : (b : Bool) → length (own_told x (take (suc p) ks)) ≡ length (own_told x (take p ks))
      → length (if b then k.told ∷ own_told x (take (suc p) ks) else own_told x (take (suc p) ks)) ≡ length (if b then k.told ∷ own_told x (take p ks) else own_told x (take p ks))
  by_test true e = ap suc e
  by_test false e = e

-- Folds

module _ {A : Type 0} (node : A → Node) (digest : Node → List ℕ) (r : Records) (p : ℕ) (folds : List (Option A)) (at : AreFoldsAt node digest r p folds) (l : ToldLine) (there : slice_get r.lines p ≡ Some l) (is : IsNode r.header.nodes l.node) where
  abbrev behind : AfterLine
  behind = after_any digest r.header.nodes l.node (option_map node (get_or folds (l.node - 1) None)) l.told (found_after (own_told l.node (drop (suc p) r.lines)))

  split : drop (length (own_told l.node (take p r.lines))) (own_there digest r.header.nodes l.node (new_node r.header l.node) (own_told l.node r.lines))
      ≡ behind.there ∷ there_from digest r.header.nodes l.node behind.node (own_told l.node (drop (suc p) r.lines))
  split =
      at.each l.node is
      ∙ (ap (λ (ls : List ToldLine). there_from digest r.header.nodes l.node (option_map node (get_or folds (l.node - 1) None)) (own_told l.node ls)) (drop_at_place r.lines p l there)
      ∙ (ap (there_from digest r.header.nodes l.node (option_map node (get_or folds (l.node - 1) None))) (own_first l.node l (drop (suc p) r.lines) refl)
      ∙ any_there digest r.header.nodes l.node (option_map node (get_or folds (l.node - 1) None)) l.told (own_told l.node (drop (suc p) r.lines))))

  pub line_is_there : is_there digest r p l ≡ behind.there
  line_is_there = head_is (own_there digest r.header.nodes l.node (new_node r.header l.node) (own_told l.node r.lines)) (length (own_told l.node (take p r.lines))) behind.there
      (there_from digest r.header.nodes l.node behind.node (own_told l.node (drop (suc p) r.lines))) split

  abbrev Each : List (Option A) → ℕ → Type 0
  Each next x = drop (length (own_told x (take (suc p) r.lines))) (own_there digest r.header.nodes x (new_node r.header x) (own_told x r.lines))
      ≡ there_from digest r.header.nodes x (option_map node (get_or next (x - 1) None)) (own_told x (drop (suc p) r.lines))

  pub folds_on : (next : Option A) → option_map node next ≡ behind.node → AreFoldsAt node digest r (suc p) (slice_set folds (l.node - 1) next)
  folds_on next of = record { all = length-set folds (l.node - 1) next ∙ at.all; own = own; each = each } where
    here_is : get_or (slice_set folds (l.node - 1) next) (l.node - 1) None ≡ next
    here_is = get_or-set_same folds (l.node - 1) next None (omega (arith, is.0, is.1, at.all))

    there_is : (x : ℕ) → IsNode r.header.nodes x → (l.node ≡ x → ⊥) → get_or (slice_set folds (l.node - 1) next) (x - 1) None ≡ get_or folds (x - 1) None
    there_is x among apart =
        let others : x - 1 ≢ l.node - 1 = λ e. apart (omega (arith, e, is.0, among.0)) in
        get_or-set_other folds (l.node - 1) (x - 1) next None others

    own : (x : ℕ) → IsNode r.header.nodes x → IsOfNetwork r.header.nodes x (option_map node (get_or (slice_set folds (l.node - 1) next) (x - 1) None))
    own x among = ⊎_elim here others (cases_eq l.node x) where
      at_own : IsOfNetwork r.header.nodes l.node (option_map node (get_or (slice_set folds (l.node - 1) next) (l.node - 1) None))
      at_own = subst (IsOfNetwork r.header.nodes l.node) (sym (ap (option_map node) here_is ∙ of))
          (any_network digest r.header.nodes l.node (option_map node (get_or folds (l.node - 1) None)) l.told (found_after (own_told l.node (drop (suc p) r.lines))) (at.own l.node is))

      here : l.node ≡ x → IsOfNetwork r.header.nodes x (option_map node (get_or (slice_set folds (l.node - 1) next) (x - 1) None))
      here same = subst (λ (y : ℕ). IsOfNetwork r.header.nodes y (option_map node (get_or (slice_set folds (l.node - 1) next) (y - 1) None))) same at_own

      others : (l.node ≡ x → ⊥) → IsOfNetwork r.header.nodes x (option_map node (get_or (slice_set folds (l.node - 1) next) (x - 1) None))
      others apart = subst (λ (o : Option A). IsOfNetwork r.header.nodes x (option_map node o)) (sym (there_is x among apart)) (at.own x among)

    each : (x : ℕ) → IsNode r.header.nodes x → Each (slice_set folds (l.node - 1) next) x
    each x among = ⊎_elim here others (cases_eq l.node x) where
      full : List Bool
      full = own_there digest r.header.nodes l.node (new_node r.header l.node) (own_told l.node r.lines)

      at_own : Each (slice_set folds (l.node - 1) next) l.node
      at_own =
          ap (λ k. drop k full) (own_here l.node r.lines p l there refl)
          ∙ (tail_is full (length (own_told l.node (take p r.lines))) behind.there (there_from digest r.header.nodes l.node behind.node (own_told l.node (drop (suc p) r.lines))) split
          ∙ ap (λ o. there_from digest r.header.nodes l.node o (own_told l.node (drop (suc p) r.lines))) (sym (ap (option_map node) here_is ∙ of)))

      here : l.node ≡ x → Each (slice_set folds (l.node - 1) next) x
      here same = subst (Each (slice_set folds (l.node - 1) next)) same at_own

      others : (l.node ≡ x → ⊥) → Each (slice_set folds (l.node - 1) next) x
      others apart =
          ap (λ k. drop k (own_there digest r.header.nodes x (new_node r.header x) (own_told x r.lines))) (own_there_take x r.lines p l there apart)
          ∙ (at.each x among
          ∙ (ap (λ (ls : List ToldLine). there_from digest r.header.nodes x (option_map node (get_or folds (x - 1) None)) (own_told x ls)) (drop_at_place r.lines p l there)
          ∙ (ap (there_from digest r.header.nodes x (option_map node (get_or folds (x - 1) None))) (own_other x l (drop (suc p) r.lines) apart)
          ∙ ap (λ (o : Option A). there_from digest r.header.nodes x (option_map node o) (own_told x (drop (suc p) r.lines))) (sym (there_is x among apart)))))

-- Those that are there

picked_none : {A : Type 0} (bs : List Bool) → picked {A = A} bs [] ≡ []
picked_none [] = refl
picked_none (true ∷ bs) = refl
picked_none (false ∷ bs) = refl

-- the last line of some is picked, or not
pub picked_last : {A : Type 0} (bs : List Bool) (xs : List A) (x : A) (rest : List A) → length xs < length bs
    → picked bs (xs ++ x ∷ []) ++ rest ≡ picked bs xs ++ (if get_or bs (length xs) true then x ∷ rest else rest)
picked_last [] xs x rest less = absurd (omega (arith, less))
picked_last (true ∷ bs) [] x rest less = ap (λ ys. x ∷ ys ++ rest) (picked_none bs)
picked_last (false ∷ bs) [] x rest less = ap (λ ys. ys ++ rest) (picked_none bs)
picked_last (true ∷ bs) (y ∷ ys) x rest less = ap (λ zs. y ∷ zs) (picked_last bs ys x rest (omega (arith, less)))
picked_last (false ∷ bs) (y ∷ ys) x rest less = picked_last bs ys x rest (omega (arith, less))

pub are_there_length : (digest : Node → List ℕ) (r : Records) (p : ℕ) (ls : List ToldLine) → length (are_there digest r p ls) ≡ length ls
are_there_length digest r p [] = refl
are_there_length digest r p (l ∷ ls) = ap suc (are_there_length digest r (p + 1) ls)

-- a property of all lines is one of those that are picked
pub picked_all : {A : Type 0} (P : A → Type 0) (bs : List Bool) (xs : List A) → AllByRecursion P xs → AllByRecursion P (picked bs xs)
picked_all P [] [] all = tt
picked_all P [] (x ∷ xs) all = tt
picked_all P (true ∷ bs) [] all = tt
picked_all P (false ∷ bs) [] all = tt
picked_all P (true ∷ bs) (x ∷ xs) all = (all.0, picked_all P bs xs all.1)
picked_all P (false ∷ bs) (x ∷ xs) all = picked_all P bs xs all.1

pub picked_few : {A : Type 0} (bs : List Bool) (xs : List A) → length (picked bs xs) ≤ length xs
picked_few [] [] = omega arith
picked_few [] (x ∷ xs) = omega arith
picked_few (true ∷ bs) [] = omega arith
picked_few (false ∷ bs) [] = omega arith
picked_few (true ∷ bs) (x ∷ xs) = omega (arith, picked_few bs xs)
picked_few (false ∷ bs) (x ∷ xs) = omega (arith, picked_few bs xs)

-- The next line of a node

own_behind : (x : ℕ) (ls : List ToldLine) → own_told x (drop (before_own x ls) ls) ≡ own_told x ls
own_behind x [] = refl
own_behind x (l ∷ ls) = elim (cases_Bool (l.node == x)) [
  | inl same ↦ ap (λ (b : Bool). own_told x (drop (if b then 0 else suc (before_own x ls)) (l ∷ ls))) same
  | inr other ↦
      ap (λ (b : Bool). own_told x (drop (if b then 0 else suc (before_own x ls)) (l ∷ ls))) other
      ∙ (own_behind x ls ∙ sym (ap (λ (b : Bool). if b then l.told ∷ own_told x ls else own_told x ls) other))
]

-- where the next line of the node x of a line is
module _ (ls : List ToldLine) (next : List ℕ) (are : AreNextPlaces ls next) (p : ℕ) (l : ToldLine) (there : slice_get ls p ≡ Some l) (x : ℕ) (is : l.node ≡ x) where
  place_is : get_or next p 0 ≡ p + 1 + before_own x (drop (p + 1) ls)
  place_is = subst (λ (y : ℕ). get_or next p 0 ≡ p + 1 + before_own y (drop (p + 1) ls)) is (are.1 p l there)

  joined : drop (before_own x (drop (p + 1) ls)) (drop (p + 1) ls) ≡ drop (get_or next p 0) ls
  joined = drop-drop (before_own x (drop (p + 1) ls)) (p + 1) ls ∙ ap (λ q. drop q ls) (sym place_is)

  pub next_within : get_or next p 0 ≤ length ls
  next_within = omega (arith, place_is, before_within x (drop (p + 1) ls), length-drop (p + 1) ls, slice_get_within ls p l there)

  pub next_later : p < get_or next p 0
  next_later = omega (arith, place_is)

  pub next_none : before_own x (drop (get_or next p 0) ls) ≡ 0
  next_none = ap (before_own x) (sym joined) ∙ before_none x (drop (p + 1) ls)

  pub next_own : own_told x (drop (get_or next p 0) ls) ≡ own_told x (drop (p + 1) ls)
  next_own = ap (own_told x) (sym joined) ∙ own_behind x (drop (p + 1) ls)

-- a start that tells no files is passed
pub next_start : (ls : List ToldLine) (p : ℕ) (l : ToldLine) (x : ℕ) → slice_get ls p ≡ Some l → l.node ≡ x → l.told ≡ Started None → found_after (own_told x (drop (p + 1) ls)) ≡ found_after (own_told x (drop p ls))
next_start ls p l x there is told =
    let index : p + 1 ≡ suc p = omega arith in
    ap (λ q. found_after (own_told x (drop q ls))) index
    ∙ (sym (ap (λ (t : Told). found_after (t ∷ own_told x (drop (suc p) ls))) told)
    ∙ sym (ap (λ (ks : List ToldLine). found_after (own_told x ks)) (drop_at_place ls p l there) ∙ ap found_after (own_first x l (drop (suc p) ls) is)))

-- Bytes that are no message

strange_behind : (nodes x : ℕ) (bytes : List ℕ) (b : AfterLine) → 1 ≤ x → message_of nodes bytes ≡ no_message → (if (message_of nodes bytes).to == x then b else nothing_more) ≡ nothing_more
strange_behind nodes x bytes b some none =
    let zero_is : (message_of nodes bytes).to ≡ 0 = ap (λ (m : Message). m.to) none in
    let apart : (message_of nodes bytes).to ≡ x → ⊥ = λ e. absurd (omega (arith, some, zero_is, e)) in
    ap (λ c. if c then b else nothing_more) (ne_eqb (message_of nodes bytes).to x apart)

pub fault_behind : {X E : Type 0} (view : X → AfterLine) (r : Result X E) (digest : Node → List ℕ) (nodes x : ℕ) (n : Node) (bytes : List ℕ) (found : Option (List ℕ)) (fault : WireFault) → 1 ≤ x → Gives (Err fault) (decoded nodes bytes)
    → IfOk r (λ k. view k ≡ nothing_more) → OnOk r (fault ≡ faults.Memory → ⊥) → IfOk r (λ k. view k ≡ after_line digest nodes x n (Came bytes) found)
fault_behind view (Err e) digest nodes x n bytes found fault some gives lost other = tt
fault_behind view (Ok k) digest nodes x n bytes found fault some gives lost other =
    lost ∙ sym (strange_behind nodes x bytes (after_input digest n (Delivered (message_of nodes bytes)) found) some (strange_bytes nodes bytes fault gives other))

-- Flags of lines

pub some_at : {A : Type 0} (xs : List A) (p : ℕ) → p < length xs → (x : A) × (slice_get xs p ≡ Some x)
some_at [] p within = absurd (omega (arith, within))
some_at (x ∷ xs) zero within = (x, refl)
some_at (x ∷ xs) (suc p) within = some_at xs p (omega (arith, within))

-- one flag more
pub flags_on : (digest : Node → List ℕ) (r : Records) (p : ℕ) (flags all : List Bool) (b : Bool) → p < length r.lines → ((l : ToldLine) → slice_get r.lines p ≡ Some l → b ≡ is_there digest r p l)
    → flags ++ are_there digest r p (drop p r.lines) ≡ all → (flags ++ b ∷ []) ++ are_there digest r (p + 1) (drop (p + 1) r.lines) ≡ all
flags_on digest r p flags all b within is so_far =
    let found = some_at r.lines p within in
    let index : p + 1 ≡ suc p = omega arith in
    append_assoc flags (b ∷ []) (are_there digest r (p + 1) (drop (p + 1) r.lines))
    ∙ (ap (λ q. flags ++ b ∷ are_there digest r (p + 1) (drop q r.lines)) index
    ∙ (ap (λ c. flags ++ c ∷ are_there digest r (p + 1) (drop (suc p) r.lines)) (is found.0 found.1)
    ∙ (ap (λ (ls : List ToldLine). flags ++ are_there digest r p ls) (sym (drop_at_place r.lines p found.0 found.1)) ∙ so_far)))

default_any : {A : Type 0} (xs : List A) (i : ℕ) (a b : A) → i < length xs → get_or xs i a ≡ get_or xs i b
default_any [] i a b within = absurd (omega (arith, within))
default_any (x ∷ xs) zero a b within = refl
default_any (x ∷ xs) (suc i) a b within = default_any xs i a b (omega (arith, within))

set_again : {A : Type 0} (xs : List A) (i : ℕ) (a b : A) → slice_set (slice_set xs i a) i b ≡ slice_set xs i b
set_again [] zero a b = refl
set_again [] (suc i) a b = refl
set_again (x ∷ xs) zero a b = refl
set_again (x ∷ xs) (suc i) a b = ap (λ ys. x ∷ ys) (set_again xs i a b)

-- One more fold, by the fold of its line's node

module _ {A : Type 0} (node : A → Node) (digest : Node → List ℕ) (r : Records) (p : ℕ) (folds : List (Option A)) (at : AreFoldsAt node digest r p folds) (l : ToldLine) (there : slice_get r.lines p ≡ Some l) (is : IsNode r.header.nodes l.node) (i : ℕ) (d : Option A) (index : i ≡ l.node - 1) where
  reads : get_or folds i d ≡ get_or folds (l.node - 1) None
  reads = default_any folds i d None (omega (arith, index, is.0, is.1, at.all)) ∙ ap (λ j. get_or folds j None) index

  place_next : p + 1 ≡ suc p
  place_next = omega arith

  behind_of : Option A → AfterLine
  behind_of o = after_any digest r.header.nodes l.node (option_map node o) l.told (found_after (own_told l.node (drop (suc p) r.lines)))

  fold_at : (o next : Option A) → get_or folds i d ≡ o → option_map node next ≡ (behind_of o).node → AreFoldsAt node digest r (p + 1) (slice_set folds i next)
  unfolding behind_of
  fold_at o next read of =
      let here : (behind_of (get_or folds (l.node - 1) None)).node ≡ (behind_of o).node = ap (λ (q : Option A). (behind_of q).node) (sym reads ∙ read) in
      subst (λ j. AreFoldsAt node digest r (p + 1) (slice_set folds j next)) (sym index)
      (subst (λ q. AreFoldsAt node digest r q (slice_set folds (l.node - 1) next)) (sym place_next) (folds_on node digest r p folds at l there is next (of ∙ sym here)))

  there_at : (o : Option A) → get_or folds i d ≡ o → is_there digest r p l ≡ (behind_of o).there
  unfolding behind_of
  there_at o read = line_is_there node digest r p folds at l there is ∙ ap (λ (q : Option A). (behind_of q).there) (sym reads ∙ read)

  pub lost_there : get_or folds i d ≡ None → true ≡ is_there digest r p l
  unfolding behind_of
  lost_there none = sym (there_at None none)

  pub lost_on : (next : Option A) → get_or folds i d ≡ None → next ≡ None → AreFoldsAt node digest r (p + 1) (slice_set folds i next)
  unfolding behind_of
  lost_on next none same = fold_at None next none (ap (option_map node) same)

  module _ (one : A) (some : get_or folds i d ≡ Some one) (b : AfterLine) (of : b ≡ after_line digest r.header.nodes l.node (node one) l.told (found_after (own_told l.node (drop (p + 1) r.lines)))) where
    b_is : b ≡ behind_of (Some one)
    unfolding behind_of
    b_is = of ∙ ap (λ q. after_line digest r.header.nodes l.node (node one) l.told (found_after (own_told l.node (drop q r.lines)))) place_next

    pub taken_there : b.there ≡ is_there digest r p l
    taken_there = ap (λ (k : AfterLine). k.there) b_is ∙ sym (there_at (Some one) some)

    pub taken_on : (before next : Option A) → option_map node next ≡ b.node → AreFoldsAt node digest r (p + 1) (slice_set (slice_set folds i before) i next)
    taken_on before next same =
        subst (AreFoldsAt node digest r (p + 1)) (sym (set_again folds i before next)) (fold_at (Some one) next some (same ∙ ap (λ (k : AfterLine). k.node) b_is))

-- the result of giving a slice back
pub given_back : {A : Type 0} (xs ys : List A) (n : ℕ) → n ≡ length xs → take n (xs ++ ys) ≡ xs
given_back xs ys n long = ap (λ k. take k (xs ++ ys)) long ∙ take_at xs ys (length xs) refl

-- Picking from the last line on

pub picked_on : (bs : List Bool) (ls init : List ToldLine) (l : ToldLine) (left more : List ToldLine) (all : List ToldLine) (n : ℕ) (d : Bool) → ls ≡ init ++ l ∷ [] → n ≡ length init
    → more ≡ (if get_or bs n d then left ++ l ∷ [] else left) → length ls ≤ length bs → picked bs ls ++ reverse left ≡ all → (length init ≤ length bs) × (picked bs init ++ reverse more ≡ all)
picked_on bs ls init l left more all n d split index put few so_far = (omega (arith, within), step ∙ so_far) where
  within : length init < length bs
  within = omega (arith, few, ap length split, length-append init (l ∷ []))

  flag : get_or bs n d ≡ get_or bs (length init) true
  flag = ap (λ i. get_or bs i d) index ∙ default_any bs (length init) d true within

  by_test : (b : Bool) → reverse (if b then left ++ l ∷ [] else left) ≡ (if b then l ∷ reverse left else reverse left)
  by_test true = reverse-append left (l ∷ [])
  by_test false = refl

  step : picked bs init ++ reverse more ≡ picked bs ls ++ reverse left
  step =
      ap (λ (ks : List ToldLine). picked bs init ++ reverse ks) put
      ∙ (ap (λ b. picked bs init ++ reverse (if b then left ++ l ∷ [] else left)) flag
      ∙ (ap (λ ks. picked bs init ++ ks) (by_test (get_or bs (length init) true))
      ∙ (sym (picked_last bs init l (reverse left) within) ∙ sym (ap (λ (ks : List ToldLine). picked bs ks ++ reverse left) split))))

pub picked_done : (bs : List Bool) (ls rest all : List ToldLine) → ls ≡ [] → picked bs ls ++ rest ≡ all → rest ≡ all
picked_done bs ls rest all none so_far = sym (ap (λ ks. ks ++ rest) (ap (picked bs) none ∙ picked_none bs)) ∙ so_far
