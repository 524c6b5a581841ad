-- Leases that have ended, one child after another.
use Rattle.std.proofs.Common.{◌≡◌, ◌≢◌, ℕ, zero, suc, ◌+◌, ◌-◌, ◌<◌, ◌≤◌, ◌⊎◌, inl, inr, Bool, true, false, nat_lt, nat_le, if◌then◌else◌, Option, Some, None, List, [], ◌∷◌, length, get_or, set, map, refl, ap, sym, subst, ◌∙◌, arith, ltb-true, ltb-false}
use Rattle.std.specs.Prelude.{filter, find}
use Rattle.std.specs.List.{AllByRecursion}
use Rattle.std.proofs.lemmas.Bool.{lt-ltb, le-ltb, lt-leb, cases_lt}
use Rattle.std.proofs.lemmas.List.{get_or-set_same, get_or-set_other}
use Rattle.oc_base.specs.Lawful.{IsNode, AreNodes}
use Rattle.oc_base.specs.declared.cert.Cert.{Cert}
use Rattle.oc_model.specs.Checking.{dies, ends_each, ends_leases}
use Rattle.oc_model.specs.Leases.{start_if, start_each, start_all, is_over, ended, next_ended, lease_time}
use Rattle.oc_model.specs.Node.{Control}
use Rattle.oc_model.specs.Numbers.{at}
use Rattle.oc_model.specs.Plan.{Plan}
use Rattle.oc_model.specs.Table.{is_lease_of, leased_children, newest}
use Rattle.oc_laws_step.specs.Sound.{IsTable, AreAbove}
use Rattle.oc_laws_step.proofs.Ranges.{all_filter, all_map, children_nodes}
use Rattle.oc_step.specs.NodeView.{IsReached}

-- Ascending lists

-- each is greater than those before it
abbrev pub IsUp : List ℕ → Type 0
IsUp [] = Unit {0}
IsUp (x ∷ xs) = AllByRecursion (λ y. x < y) xs × IsUp xs

up_or_less : (b : Bool) (x : ℕ) (ys : List ℕ) → AllByRecursion (λ y. x < y) ys → IsUp ys → IsUp (if b then x ∷ ys else ys)
up_or_less true x ys all up = (all, up)
up_or_less false x ys all up = up

up_filter : (p : ℕ → Bool) (xs : List ℕ) → IsUp xs → IsUp (filter p xs)
up_filter p [] up = tt
up_filter p (x ∷ xs) up = up_or_less (p x) x (filter p xs) (all_filter (λ y. x < y) p xs up.0) (up_filter p xs up.1)

table_or_less : (b : Bool) (k : Cert) (ks : List Cert) → AreAbove k.subject ks → IsTable ks → IsTable (if b then k ∷ ks else ks)
table_or_less true k ks above is = (above, is)
table_or_less false k ks above is = is

table_filter : (p : Cert → Bool) (ks : List Cert) → IsTable ks → IsTable (filter p ks)
table_filter p [] is = tt
table_filter p (k ∷ ks) is = table_or_less (p k) k (filter p ks) (all_filter (λ c. k.subject < c.subject) p ks is.0) (table_filter p ks is.1)

up_subjects : (ks : List Cert) → IsTable ks → IsUp (map (λ k. k.subject) ks)
up_subjects [] is = tt
up_subjects (k ∷ ks) is = (all_map (λ y. k.subject < y) (λ (c : Cert). c.subject) ks is.0, up_subjects ks is.1)

-- the children whose lease has ended ascend
up_ended : (t : List Cert) (y : ℕ) (ends : List (Option ℕ)) (now : ℕ) → IsTable t → IsUp (ended t y ends now)
up_ended t y ends now is = up_filter (λ x. is_over (at ends x None) now) (leased_children t y) (up_subjects (filter (is_lease_of y) t) (table_filter (is_lease_of y) t is))

-- The next one past a number

-- all children of the list are past a number below the first
filter_past : (x e : ℕ) (es : List ℕ) → AllByRecursion (λ y. e < y) es → x ≤ e → filter (λ z. nat_lt x z) es ≡ es
filter_past x e [] all le = refl
filter_past x e (y ∷ ys) all le = let past : nat_lt x y ≡ true = lt-ltb x y (omega (arith, all.0)) in rw past (ap (λ (l : List ℕ). y ∷ l) (filter_past x e ys all.1 le))

-- the one that is found is past the number
found_past : (es : List ℕ) (x k : ℕ) → find (λ z. nat_lt x z) es ≡ Some k → x < k
found_past [] x k e = absurd cc
found_past (y ∷ ys) x k e = by_test (found_past ys x k) (nat_lt x y) refl where
  by_test : (find (λ z. nat_lt x z) ys ≡ Some k → x < k) → (b : Bool) → nat_lt x y ≡ b → x < k
  by_test rest true h = let found : find (λ z. nat_lt x z) (y ∷ ys) ≡ Some y = rw h in let same : y ≡ k = cc in subst (λ (n : ℕ). x < n) same (ltb-true x y h)
  by_test rest false h = rest (rw h at e)

-- the children past the number are the next one and those past that
next_first : (es : List ℕ) (x k : ℕ) → IsUp es → find (λ z. nat_lt x z) es ≡ Some k → filter (λ z. nat_lt x z) es ≡ k ∷ filter (λ z. nat_lt k z) es
next_first [] x k up e = absurd cc
next_first (y ∷ ys) x k up e = by_test (next_first ys x k up.1) (nat_lt x y) refl where
  by_test : (find (λ z. nat_lt x z) ys ≡ Some k → filter (λ z. nat_lt x z) ys ≡ k ∷ filter (λ z. nat_lt k z) ys) → (b : Bool) → nat_lt x y ≡ b → filter (λ z. nat_lt x z) (y ∷ ys) ≡ k ∷ filter (λ z. nat_lt k z) (y ∷ ys)
  by_test rest true h =
      let found : find (λ z. nat_lt x z) (y ∷ ys) ≡ Some y = rw h in
      let same : y ≡ k = cc in
      let less : x < y = ltb-true x y h in
      let left : filter (λ z. nat_lt x z) (y ∷ ys) ≡ y ∷ ys = rw h (ap (λ (l : List ℕ). y ∷ l) (filter_past x y ys up.0 (omega arith))) in
      let own : nat_lt y y ≡ false = le-ltb y y (omega arith) in
      let right : filter (λ z. nat_lt y z) (y ∷ ys) ≡ ys = rw own (filter_past y y ys up.0 (omega arith)) in
      subst (λ (n : ℕ). filter (λ z. nat_lt x z) (y ∷ ys) ≡ n ∷ filter (λ z. nat_lt n z) (y ∷ ys)) same (left ∙ sym (ap (λ (l : List ℕ). y ∷ l) right))
  by_test rest false h =
      let found : find (λ z. nat_lt x z) ys ≡ Some k = rw h at e in
      let past : x < k = found_past ys x k found in
      let before : y ≤ x = ltb-false x y h in
      let here : nat_lt k y ≡ false = le-ltb k y (omega arith) in
      rw (h, here) (rest found)

-- nothing is past the number
next_none : (es : List ℕ) (x : ℕ) → find (λ z. nat_lt x z) es ≡ None → filter (λ z. nat_lt x z) es ≡ []
next_none [] x e = refl
next_none (y ∷ ys) x e = by_test (next_none ys x) (nat_lt x y) refl where
  by_test : (find (λ z. nat_lt x z) ys ≡ None → filter (λ z. nat_lt x z) ys ≡ []) → (b : Bool) → nat_lt x y ≡ b → filter (λ z. nat_lt x z) (y ∷ ys) ≡ []
  by_test rest true h = let found : find (λ z. nat_lt x z) (y ∷ ys) ≡ Some y = rw h in absurd cc
  by_test rest false h = rw h (rest (rw h at e))

-- all nodes are past zero
pub filter_zero : (nodes : ℕ) (xs : List ℕ) → AreNodes nodes xs → filter (λ z. nat_lt 0 z) xs ≡ xs
filter_zero nodes [] all = refl
filter_zero nodes (x ∷ xs) all = let past : nat_lt 0 x ≡ true = lt-ltb 0 x (omega (arith, all.0.0)) in rw past (ap (λ (l : List ℕ). x ∷ l) (filter_zero nodes xs all.1))

-- Leases that just began

set_beyond : (ends : List (Option ℕ)) (i : ℕ) (v : Option ℕ) → length ends ≤ i → set ends i v ≡ ends
set_beyond [] i v over = refl
set_beyond (e ∷ es) zero v over = absurd (omega arith)
set_beyond (e ∷ es) (suc i) v over = ap (λ (l : List (Option ℕ)). e ∷ l) (set_beyond es i v (omega arith))

-- a lease that has no end is over no more than one that just began
over_renewed : (ends : List (Option ℕ)) (i j now : ℕ) → get_or ends i None ≡ None → is_over (get_or (set ends i (Some (now + lease_time))) j None) now ≡ is_over (get_or ends j None) now
over_renewed ends i j now none = by_index (cases_lt i j) (cases_lt j i) (cases_lt i (length ends)) where
  other : j ≢ i → is_over (get_or (set ends i (Some (now + lease_time))) j None) now ≡ is_over (get_or ends j None) now
  other apart = ap (λ (o : Option ℕ). is_over o now) (get_or-set_other ends i j (Some (now + lease_time)) None apart)

  same : j ≡ i → i < length ends → is_over (get_or (set ends i (Some (now + lease_time))) j None) now ≡ is_over (get_or ends j None) now
  same e within =
      let began : get_or (set ends i (Some (now + lease_time))) i None ≡ Some (now + lease_time) = get_or-set_same ends i (Some (now + lease_time)) None within in
      let later : nat_le (now + lease_time) now ≡ false = lt-leb (now + lease_time) now (omega arith) in
      rw (e, began, none) later

  by_index : (i < j) ⊎ (j ≤ i) → (j < i) ⊎ (i ≤ j) → (i < length ends) ⊎ (length ends ≤ i) → is_over (get_or (set ends i (Some (now + lease_time))) j None) now ≡ is_over (get_or ends j None) now
  by_index (inl h) g w = other (λ e. omega (arith, e, h))
  by_index (inr h) (inl g) w = other (λ e. omega (arith, e, g))
  by_index (inr h) (inr g) (inl w) = same (omega arith) w
  by_index (inr h) (inr g) (inr w) = ap (λ (l : List (Option ℕ)). is_over (get_or l j None) now) (set_beyond ends i (Some (now + lease_time)) w)

over_started_if : (o : Option ℕ) (ends : List (Option ℕ)) (x now y : ℕ) → at ends x None ≡ o → is_over (at (start_if o ends x now) y None) now ≡ is_over (at ends y None) now
over_started_if (Some t) ends x now y e = refl
over_started_if None ends x now y e = over_renewed ends (x - 1) (y - 1) now e

over_started : (xs : List ℕ) (ends : List (Option ℕ)) (now y : ℕ) → is_over (at (start_each xs ends now) y None) now ≡ is_over (at ends y None) now
over_started [] ends now y = refl
over_started (x ∷ xs) ends now y = over_started xs (start_if (at ends x None) ends x now) now y ∙ over_started_if (at ends x None) ends x now y refl

filter_same : (p q : ℕ → Bool) → ((x : ℕ) → p x ≡ q x) → (xs : List ℕ) → filter p xs ≡ filter q xs
filter_same p q same [] = refl
filter_same p q same (x ∷ xs) = ap (λ (b : Bool). if b then x ∷ filter p xs else filter p xs) (same x) ∙ ap (λ (l : List ℕ). if q x then x ∷ l else l) (filter_same p q same xs)

-- a lease that just began has not ended
ended_started : (t : List Cert) (y : ℕ) (ends : List (Option ℕ)) (now : ℕ) → ended t y (start_all t y ends now) now ≡ ended t y ends now
ended_started t y ends now = filter_same (λ x. is_over (at (start_all t y ends now) x None) now) (λ x. is_over (at ends x None) now) (over_started (leased_children t y) ends now) (leased_children t y)

-- The steps of the loop

-- the children of a node whose leases have ended
abbrev pub ended_at : Control → ℕ → List ℕ
ended_at n now = ended n.kept.table n.me n.leases now

-- the children past a number whose lease has ended
abbrev pub ended_past : Control → ℕ → ℕ → List ℕ
ended_past n now x = filter (λ z. nat_lt x z) (ended_at n now)

ended_nodes : (n : Control) (now : ℕ) → IsReached n → AreNodes n.nodes (ended_at n now)
ended_nodes n now reached = all_filter (IsNode n.nodes) (λ x. is_over (at n.leases x None) now) (leased_children n.kept.table n.me) (children_nodes n.nodes n.kept.table n.me reached.lawful.kept.table)

-- all ended children are left at the beginning
pub ends_begin : (n : Control) (o : Plan) (now : ℕ) → IsReached n → o.node.kept.table ≡ n.kept.table → o.node.me ≡ n.me → o.node.soft.clock ≡ now → o.node.leases ≡ start_all n.kept.table n.me n.leases now → ends_each (ended_past n now 0) o ≡ ends_leases o
ends_begin n o now reached table me clock leases =
    let all : ended_past n now 0 ≡ ended_at n now = filter_zero n.nodes (ended_at n now) (ended_nodes n now reached) in
    let same : ended_at n now ≡ ended o.node.kept.table o.node.me o.node.leases o.node.soft.clock = rw (table, me, clock, leases) (sym (ended_started n.kept.table n.me n.leases now)) in
    ap (λ (xs : List ℕ). ends_each xs o) (all ∙ same)

-- the children past the next one are left after it
pub ends_go_on : (n : Control) (now after child : ℕ) (o q whole : Plan) → IsReached n → next_ended n.kept.table n.me n.leases after now ≡ Some child → q ≡ dies (newest o.node.kept.table child) o → ends_each (ended_past n now after) o ≡ whole → ends_each (ended_past n now child) q ≡ whole
ends_go_on n now after child o q whole reached next made so =
    let first : ended_past n now after ≡ child ∷ ended_past n now child = next_first (ended_at n now) after child (up_ended n.kept.table n.me n.leases now reached.sound.kept.table) next in
    rw made (sym (ap (λ (xs : List ℕ). ends_each xs o) first) ∙ so)

pub ends_fewer : (n : Control) (now after child : ℕ) → IsReached n → next_ended n.kept.table n.me n.leases after now ≡ Some child → length (ended_past n now child) < length (ended_past n now after)
ends_fewer n now after child reached next =
    let first : ended_past n now after ≡ child ∷ ended_past n now child = next_first (ended_at n now) after child (up_ended n.kept.table n.me n.leases now reached.sound.kept.table) next in
    rw first (omega arith)

-- the loop is done where none is left
pub ends_over : (n : Control) (now after : ℕ) (o whole : Plan) → next_ended n.kept.table n.me n.leases after now ≡ None → ends_each (ended_past n now after) o ≡ whole → o ≡ whole
ends_over n now after o whole none so =
    let over : ended_past n now after ≡ [] = next_none (ended_at n now) after none in
    sym (ap (λ (xs : List ℕ). ends_each xs o) over) ∙ so
