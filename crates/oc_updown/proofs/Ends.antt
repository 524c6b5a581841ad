-- Leases by the rows of a table, one row after another.
use Rattle.std.proofs.Common.{◌≡◌, ℕ, zero, suc, ◌+◌, ◌<◌, ◌≤◌, Bool, true, false, nat_lt, Option, Some, None, IfSome, List, [], ◌∷◌, length, drop, get_or, refl, ap, sym, ◌∙◌, arith}
use Rattle.std.proofs.lemmas.Bool.{lt-ltb, le-ltb}
use Rattle.oc_base.specs.declared.cert.Cert.{Cert}
use Rattle.oc_base.specs.Lawful.{IsNode}
use Rattle.oc_model.specs.Numbers.{at}
use Rattle.oc_model.specs.Table.{is_lease_of}
use Rattle.oc_model.specs.Leases.{start_all, is_over, next_ended}
use Rattle.oc_updown.specs.TableView.{AreRowsFrom, AreRows, entries_of}
use Rattle.oc_updown.proofs.Lines.{rows_at, row_is_of_node}
use Rattle.oc_updown.specs.Children.{start_row, ended_of_row}

-- the children of the first row start first, and then those of the others
pub start_cons : (y : ℕ) (row : Option Cert) (rows : List (Option Cert)) (ends : List (Option ℕ)) (now : ℕ) → start_all (entries_of (row ∷ rows)) y ends now ≡ start_all (entries_of rows) y (start_row y row ends now) now
start_cons y None rows ends now = refl
start_cons y (Some k) rows ends now = by_test (is_lease_of y k) refl where
  by_test : (b : Bool) → is_lease_of y k ≡ b → start_all (entries_of (Some k ∷ rows)) y ends now ≡ start_all (entries_of rows) y (start_row y (Some k) ends now) now
  by_test true e = rw e
  by_test false e = rw e

-- the rest still completes the whole after one row was started
pub start_goes_on : (y : ℕ) (rows : List (Option Cert)) (i : ℕ) (row : Option Cert) (ends new whole : List (Option ℕ)) (now : ℕ) → i < length rows → row ≡ get_or rows i row → new ≡ start_row y row ends now → start_all (entries_of (drop i rows)) y ends now ≡ whole → start_all (entries_of (drop (i + 1) rows)) y new now ≡ whole
start_goes_on y rows i row ends new whole now within e did so =
    let here : start_all (entries_of (drop i rows)) y ends now ≡ start_all (entries_of (drop (i + 1) rows)) y (start_row y row ends now) now = ap (λ (rs : List (Option Cert)). start_all (entries_of rs) y ends now) (rows_at rows i row within e) ∙ start_cons y row (drop (i + 1) rows) ends now in
    rw did (sym here ∙ so)

-- a row is of a node for which there is an end
pub child_of_row : (nodes many i : ℕ) (rows : List (Option Cert)) (row : Option Cert) → i < length rows → row ≡ get_or rows i row → AreRowsFrom nodes (i + 1) (drop i rows) → nodes ≤ many → IfSome row (λ k. IsNode many k.subject)
child_of_row nodes many i rows row within e fit few = by_row row (row_is_of_node nodes i rows row within e fit) where
  by_row : (row : Option Cert) → IfSome row (λ k. IsNode nodes k.subject) → IfSome row (λ k. IsNode many k.subject)
  by_row None node = tt
  by_row (Some k) node = omega (arith, node, few)

-- the next of these rows whose lease has ended
abbrev pub next_among : List (Option Cert) → ℕ → List (Option ℕ) → ℕ → ℕ → Option ℕ
next_among rows y ends x now = next_ended (entries_of rows) y ends x now

-- a row whose lease has not ended gives nothing
pub next_past : (y : ℕ) (row : Option Cert) (rows : List (Option Cert)) (ends : List (Option ℕ)) (x now : ℕ) → ended_of_row y row ends now ≡ None → next_among (row ∷ rows) y ends x now ≡ next_among rows y ends x now
next_past y None rows ends x now e = refl
next_past y (Some k) rows ends x now e = by_tests (is_lease_of y k) refl (is_over (at ends k.subject None) now) refl where
  by_tests : (a : Bool) → is_lease_of y k ≡ a → (b : Bool) → is_over (at ends k.subject None) now ≡ b → next_among (Some k ∷ rows) y ends x now ≡ next_among rows y ends x now
  by_tests true h true g = let some : ended_of_row y (Some k) ends now ≡ Some k.subject = rw (h, g) in absurd cc
  by_tests true h false g = rw (h, g)
  by_tests false h b g = rw h

-- a row past the number whose lease has ended gives the next
pub next_here : (y : ℕ) (row : Option Cert) (rows : List (Option Cert)) (ends : List (Option ℕ)) (nodes x z now : ℕ) → AreRowsFrom nodes (z + 1) (row ∷ rows) → x ≤ z → (child : ℕ) → ended_of_row y row ends now ≡ Some child → next_among (row ∷ rows) y ends x now ≡ Some child
next_here y None rows ends nodes x z now fit past child e = absurd cc
next_here y (Some k) rows ends nodes x z now fit past child e = by_tests (is_lease_of y k) refl (is_over (at ends k.subject None) now) refl where
  by_tests : (a : Bool) → is_lease_of y k ≡ a → (b : Bool) → is_over (at ends k.subject None) now ≡ b → next_among (Some k ∷ rows) y ends x now ≡ Some child
  by_tests true h true g =
      let later : nat_lt x k.subject ≡ true = lt-ltb x k.subject (omega (arith, fit.0)) in
      let some : ended_of_row y (Some k) ends now ≡ Some k.subject = rw (h, g) in
      rw (h, g, later) (sym some ∙ e)
  by_tests true h false g = let none : ended_of_row y (Some k) ends now ≡ None = rw (h, g) in absurd cc
  by_tests false h b g = let none : ended_of_row y (Some k) ends now ≡ None = rw h in absurd cc

-- a row up to the number gives nothing
next_not_yet : (y : ℕ) (row : Option Cert) (rows : List (Option Cert)) (ends : List (Option ℕ)) (nodes x z now : ℕ) → AreRowsFrom nodes z (row ∷ rows) → z ≤ x → next_among (row ∷ rows) y ends x now ≡ next_among rows y ends x now
next_not_yet y None rows ends nodes x z now fit before = refl
next_not_yet y (Some k) rows ends nodes x z now fit before = by_tests (is_lease_of y k) refl (is_over (at ends k.subject None) now) refl where
  by_tests : (a : Bool) → is_lease_of y k ≡ a → (b : Bool) → is_over (at ends k.subject None) now ≡ b → next_among (Some k ∷ rows) y ends x now ≡ next_among rows y ends x now
  by_tests true h true g = let earlier : nat_lt x k.subject ≡ false = le-ltb x k.subject (omega (arith, fit.0)) in rw (h, g, earlier)
  by_tests true h false g = rw (h, g)
  by_tests false h b g = rw h

-- the rows after the first are of the nodes after its node
rows_rest : (nodes z : ℕ) (row : Option Cert) (rows : List (Option Cert)) → AreRowsFrom nodes z (row ∷ rows) → AreRowsFrom nodes (z + 1) rows
rows_rest nodes z None rows fit = fit
rows_rest nodes z (Some k) rows fit = fit.2

-- the rows up to the number may be left out
next_from : (y i : ℕ) (rows : List (Option Cert)) (ends : List (Option ℕ)) (nodes x z now : ℕ) → AreRowsFrom nodes z rows → z + i ≤ x + 1 → next_among (drop i rows) y ends x now ≡ next_among rows y ends x now
next_from y zero rows ends nodes x z now fit within = refl
next_from y (suc i) [] ends nodes x z now fit within = refl
next_from y (suc i) (row ∷ rows) ends nodes x z now fit within =
    next_from y i rows ends nodes x (z + 1) now (rows_rest nodes z row rows fit) (omega arith) ∙ sym (next_not_yet y row rows ends nodes x z now fit (omega arith))

-- the rows that are left are of the nodes past those that were left out
drop_fits : (nodes z i : ℕ) (rows : List (Option Cert)) → AreRowsFrom nodes z rows → AreRowsFrom nodes (z + i) (drop i rows)
drop_fits nodes z zero rows fit = let e : z + 0 ≡ z = omega arith in rw e fit
drop_fits nodes z (suc i) [] fit = tt
drop_fits nodes z (suc i) (row ∷ rows) fit = let e : z + suc i ≡ (z + 1) + i = omega arith in rw e (drop_fits nodes (z + 1) i rows (rows_rest nodes z row rows fit))

-- the look begins after the number
pub next_begins : (y : ℕ) (rows : List (Option Cert)) (ends : List (Option ℕ)) (x now : ℕ) → AreRows rows → next_among (drop x rows) y ends x now ≡ next_among rows y ends x now
next_begins y rows ends x now fit = next_from y x rows ends (length rows) x 1 now fit (omega arith)

pub rows_past : (rows : List (Option Cert)) (x : ℕ) → AreRows rows → AreRowsFrom (length rows) (x + 1) (drop x rows)
rows_past rows x fit = let e : x + 1 ≡ 1 + x = omega arith in rw e (drop_fits (length rows) 1 x rows fit)
