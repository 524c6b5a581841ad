-- The children of a node by the rows of its table, one row after another.
use Rattle.std.proofs.Common.{◌≡◌, ℕ, ◌+◌, ◌<◌, ◌≤◌, Bool, true, false, not, ◌&&◌, ◌==◌, nat_le, Option, Some, None, List, [], ◌∷◌, ◌++◌, length, take, drop, get_or, replicate, min, ◌⊎◌, inl, inr, refl, ap, sym, subst, ◌∙◌, append_assoc, arith, length-take}
use Rattle.std.proofs.lemmas.Bool.{le-leb, lt-leb, cases_lt}
use Rattle.std.proofs.lemmas.List.{get_or-take}
use Rattle.oc_base.specs.declared.cert.Cert.{Cert}
use Rattle.oc_base.specs.declared.cert.Child.{Child}
use Rattle.oc_model.specs.Adoption.{chain_child}
use Rattle.oc_model.specs.Table.{is_lease_of}
use Rattle.oc_updown.specs.TableView.{AreRowsFrom, entries_of}
use Rattle.oc_updown.proofs.Entries.{no_entries_past}
use Rattle.oc_updown.proofs.Lines.{rows_at}
use Rattle.oc_state.specs.Children.{other_child_of_row, told_of_row, told_children}

-- a conjunction with a false fact is false
and_no : (b : Bool) → (b && false) ≡ false
and_no true = refl
and_no false = refl

-- the chain child that these rows give
abbrev pub chain_among : List (Option Cert) → ℕ → ℕ → ℕ → Option ℕ
chain_among rows y chain x = chain_child (entries_of rows) y chain x

-- a row without such a child gives nothing
pub chain_past : (row : Option Cert) (rows : List (Option Cert)) (y chain x : ℕ) → other_child_of_row y x row ≡ None → chain_among (row ∷ rows) y chain x ≡ chain_among rows y chain x
chain_past None rows y chain x e = refl
chain_past (Some k) rows y chain x e = by_tests (is_lease_of y k) refl (k.subject == x) refl where
  by_tests : (a : Bool) → is_lease_of y k ≡ a → (b : Bool) → (k.subject == x) ≡ b → chain_among (Some k ∷ rows) y chain x ≡ chain_among rows y chain x
  by_tests true h true g =
      let out : (nat_le k.subject chain && not (k.subject == x)) ≡ false = rw g (and_no (nat_le k.subject chain)) in
      rw (h, out)
  by_tests true h false g = let some : other_child_of_row y x (Some k) ≡ Some k.subject = rw (h, g) in absurd cc
  by_tests false h b g = rw h

-- a row with such a child, a member of the chain, gives it
pub chain_here : (row : Option Cert) (rows : List (Option Cert)) (y chain x k : ℕ) → other_child_of_row y x row ≡ Some k → k ≤ chain → chain_among (row ∷ rows) y chain x ≡ Some k
chain_here None rows y chain x k e member = absurd cc
chain_here (Some c) rows y chain x k e member = by_tests (is_lease_of y c) refl (c.subject == x) refl where
  by_tests : (a : Bool) → is_lease_of y c ≡ a → (b : Bool) → (c.subject == x) ≡ b → chain_among (Some c ∷ rows) y chain x ≡ Some k
  by_tests true h false g =
      let some : other_child_of_row y x (Some c) ≡ Some c.subject = rw (h, g) in
      let same : c.subject ≡ k = cc in
      let within : nat_le c.subject chain ≡ true = le-leb c.subject chain (omega (arith, same)) in
      rw (h, within, g) (ap (λ (z : ℕ). Some z) same)
  by_tests true h true g = let none : other_child_of_row y x (Some c) ≡ None = rw (h, g) in absurd cc
  by_tests false h b g = let none : other_child_of_row y x (Some c) ≡ None = rw h in absurd cc

-- the child of a row is the row's node
child_is_node : (nodes z : ℕ) (row : Option Cert) (rows : List (Option Cert)) (y x k : ℕ) → AreRowsFrom nodes z (row ∷ rows) → other_child_of_row y x row ≡ Some k → k ≡ z
child_is_node nodes z None rows y x k fit e = absurd cc
child_is_node nodes z (Some c) rows y x k fit e = by_test (is_lease_of y c && not (c.subject == x)) refl where
  by_test : (b : Bool) → (is_lease_of y c && not (c.subject == x)) ≡ b → k ≡ z
  by_test true h = let some : other_child_of_row y x (Some c) ≡ Some c.subject = rw h in let own : c.subject ≡ k = cc in sym own ∙ fit.0
  by_test false h = let none : other_child_of_row y x (Some c) ≡ None = rw h in absurd cc

-- rows of nodes past the chain give none
chain_none : (rows : List (Option Cert)) (nodes z y chain x : ℕ) → AreRowsFrom nodes z rows → chain < z → chain_among rows y chain x ≡ None
chain_none [] nodes z y chain x fit past = refl
chain_none (None ∷ rows) nodes z y chain x fit past = chain_none rows nodes (z + 1) y chain x fit (omega arith)
chain_none (Some k ∷ rows) nodes z y chain x fit past = by_test (chain_none rows nodes (z + 1) y chain x fit.2 (omega arith)) (is_lease_of y k) refl where
  by_test : chain_among rows y chain x ≡ None → (b : Bool) → is_lease_of y k ≡ b → chain_among (Some k ∷ rows) y chain x ≡ None
  by_test rest true h =
      let beyond : nat_le k.subject chain ≡ false = lt-leb k.subject chain (omega (arith, fit.0)) in
      rw (h, beyond) rest
  by_test rest false h = rw h rest

-- The steps of the loop over the rows

-- the result of the rest is that of all rows, if this row gives no child
pub chain_goes_on : (rows : List (Option Cert)) (i : ℕ) (row : Option Cert) (y chain x : ℕ) (whole : Option ℕ) → i < length rows → row ≡ get_or rows i row → other_child_of_row y x row ≡ None → chain_among (drop i rows) y chain x ≡ whole → chain_among (drop (i + 1) rows) y chain x ≡ whole
chain_goes_on rows i row y chain x whole within e none so =
    let here : chain_among (drop i rows) y chain x ≡ chain_among (drop (i + 1) rows) y chain x = ap (λ (rs : List (Option Cert)). chain_among rs y chain x) (rows_at rows i row within e) ∙ chain_past row (drop (i + 1) rows) y chain x none in
    sym here ∙ so

-- a child that this row gives and that is in the chain is the result of all rows
pub chain_found : (rows : List (Option Cert)) (i : ℕ) (row : Option Cert) (y chain x : ℕ) (whole found : Option ℕ) → i < length rows → row ≡ get_or rows i row → AreRowsFrom (length rows) (i + 1) (drop i rows) → i < chain → found ≡ other_child_of_row y x row → (k : ℕ) → found ≡ Some k → chain_among (drop i rows) y chain x ≡ whole → found ≡ whole
chain_found rows i row y chain x whole found within e fit member is k some so =
    let fit' : AreRowsFrom (length rows) (i + 1) (row ∷ drop (i + 1) rows) = subst (λ (rs : List (Option Cert)). AreRowsFrom (length rows) (i + 1) rs) (rows_at rows i row within e) fit in
    let has : other_child_of_row y x row ≡ Some k = sym is ∙ some in
    let own : k ≡ i + 1 = child_is_node (length rows) (i + 1) row (drop (i + 1) rows) y x k fit' has in
    let here : chain_among (drop i rows) y chain x ≡ Some k = ap (λ (rs : List (Option Cert)). chain_among rs y chain x) (rows_at rows i row within e) ∙ chain_here row (drop (i + 1) rows) y chain x k has (omega (arith, own)) in
    some ∙ sym here ∙ so

-- the rows past the chain give none
pub chain_ends : (rows : List (Option Cert)) (used n i : ℕ) (blank : Option Cert) (y chain x : ℕ) → AreRowsFrom (length rows) (i + 1) (drop i rows) → drop used rows ≡ replicate n blank → blank ≡ None → min used chain ≤ i → chain_among (drop i rows) y chain x ≡ None
chain_ends rows used n i blank y chain x fit rest none past = by_order (cases_lt i used) where
  by_order : (i < used) ⊎ (used ≤ i) → chain_among (drop i rows) y chain x ≡ None
  by_order (inl h) = chain_none (drop i rows) (length rows) (i + 1) y chain x fit (omega arith)
  by_order (inr h) = ap (λ es. chain_child es y chain x) (no_entries_past rows used i n blank h rest none)

-- The leased children with their rates

-- the first row gives its child, and the rest the others
told_cons : (y : ℕ) (rates : List ℕ) (row : Option Cert) (rows : List (Option Cert)) → told_children (entries_of (row ∷ rows)) y rates ≡ told_of_row y rates row ++ told_children (entries_of rows) y rates
told_cons y rates None rows = refl
told_cons y rates (Some k) rows = by_test (is_lease_of y k) refl where
  by_test : (b : Bool) → is_lease_of y k ≡ b → told_children (entries_of (Some k ∷ rows)) y rates ≡ told_of_row y rates (Some k) ++ told_children (entries_of rows) y rates
  by_test true h = rw h
  by_test false h = rw h

-- the rest still completes the whole after the child of a row was added
pub told_go_on : (y : ℕ) (rates : List ℕ) (rows : List (Option Cert)) (i : ℕ) (row : Option Cert) (before after whole : List Child) → i < length rows → row ≡ get_or rows i row → after ≡ before ++ told_of_row y rates row → before ++ told_children (entries_of (drop i rows)) y rates ≡ whole → after ++ told_children (entries_of (drop (i + 1) rows)) y rates ≡ whole
told_go_on y rates rows i row before after whole within e put so =
    let here : told_children (entries_of (drop i rows)) y rates ≡ told_of_row y rates row ++ told_children (entries_of (drop (i + 1) rows)) y rates = ap (λ (rs : List (Option Cert)). told_children (entries_of rs) y rates) (rows_at rows i row within e) ∙ told_cons y rates row (drop (i + 1) rows) in
    rw put (append_assoc before (told_of_row y rates row) (told_children (entries_of (drop (i + 1) rows)) y rates) ∙ (sym (ap (λ (cs : List Child). before ++ cs) here) ∙ so))

-- a row among the first ones is that row of all
pub row_in_front : (rows filled : List (Option Cert)) (i : ℕ) (row : Option Cert) → i < length filled → filled ≡ take (length filled) rows → row ≡ get_or filled i row → (i < length rows) × (row ≡ get_or rows i row)
row_in_front rows filled i row within front is =
    let few : length filled ≤ length rows = omega (arith, ap (λ (l : List (Option Cert)). length l) front, length-take (length filled) rows) in
    (omega (arith, within, few), is ∙ ap (λ (l : List (Option Cert)). get_or l i row) front ∙ get_or-take (length filled) rows i row within)
