-- Rows and the entries in them: the row of a node is its newest certificate, and setting the row is
-- putting the certificate.
use Rattle.std.proofs.Common.{◌≡◌, ℕ, zero, suc, ◌+◌, ◌-◌, ◌<◌, ◌≤◌, Bool, true, false, ◌==◌, nat_lt, Option, Some, None, IfSome, List, [], ◌∷◌, length, drop, get_or, set, replicate, Bor, refl, ap, sym, subst, ◌∙◌, arith, eqb-true, eq-eqb, ne_eqb}
use Rattle.std.proofs.lemmas.Bool.{le-ltb, lt-ltb}
use Rattle.std.proofs.Math.ListN.{length-set}
use Rattle.std.proofs.lemmas.List.{drop-drop, drop-replicate, length-replicate}
use Rattle.std.specs.Option.{option_flatten, option_copied, option_map, unwrap_or}
use Rattle.oc_base.specs.declared.cert.Cert.{Cert}
use Rattle.oc_model.specs.Table.{newest, put}
use Rattle.oc_updown.specs.TableView.{AreRowsFrom, AreRows, entries_of}
use Rattle.oc_base.specs.Lawful.{IsNode, IsCert}

-- the rows from a node on have no certificate of a node before it
pub newest_before : (nodes x y : ℕ) (rows : List (Option Cert)) → AreRowsFrom nodes x rows → y < x → newest (entries_of rows) y ≡ None
newest_before nodes x y [] fit less = refl
newest_before nodes x y (None ∷ rows) fit less = newest_before nodes (x + 1) y rows fit (omega arith)
newest_before nodes x y (Some k ∷ rows) fit less =
    let away : k.subject == y ≡ false = ne_eqb k.subject y (λ h. omega (arith, fit.0, h)) in
    rw away (newest_before nodes (x + 1) y rows fit.2 (omega arith))

-- the newest certificate of a node is its row
newest_from : (nodes x y i : ℕ) (rows : List (Option Cert)) → AreRowsFrom nodes x rows → y ≡ x + i → newest (entries_of rows) y ≡ get_or rows i None
newest_from nodes x y i [] fit e = refl
newest_from nodes x y zero (None ∷ rows) fit e = newest_before nodes (x + 1) y rows fit (omega arith)
newest_from nodes x y (suc i) (None ∷ rows) fit e = newest_from nodes (x + 1) y i rows fit (omega arith)
newest_from nodes x y zero (Some k ∷ rows) fit e = let is : k.subject == y ≡ true = eq-eqb k.subject y (omega (arith, fit.0)) in rw is
newest_from nodes x y (suc i) (Some k ∷ rows) fit e =
    let away : k.subject == y ≡ false = ne_eqb k.subject y (λ h. omega (arith, fit.0, h)) in
    rw away (newest_from nodes (x + 1) y i rows fit.2 (omega arith))

-- the newest certificate of a node, by the node's place
pub newest_row : (rows : List (Option Cert)) (y place : ℕ) → AreRows rows → y ≡ place + 1 → newest (entries_of rows) y ≡ get_or rows place None
newest_row rows y place fit e = newest_from (length rows) 1 y place rows fit (omega arith)

-- no row is about a node of the number 0
pub newest_zero : (rows : List (Option Cert)) (y : ℕ) → AreRows rows → y < 1 → newest (entries_of rows) y ≡ None
newest_zero rows y fit less = newest_before (length rows) 1 y rows fit less

-- a row is about the node asked for, and within the range
pub newest_fits : (nodes x y : ℕ) (rows : List (Option Cert)) (k : Cert) → AreRowsFrom nodes x rows → newest (entries_of rows) y ≡ Some k → (k.subject ≡ y) × IsCert nodes k
newest_fits nodes x y [] k fit h = absurd cc
newest_fits nodes x y (None ∷ rows) k fit h = newest_fits nodes (x + 1) y rows k fit h
newest_fits nodes x y (Some j ∷ rows) k fit h = by_test (λ g. newest_fits nodes (x + 1) y rows k fit.2 g) (j.subject == y) refl where
  by_test : (newest (entries_of rows) y ≡ Some k → (k.subject ≡ y) × IsCert nodes k) → (b : Bool) → j.subject == y ≡ b → (k.subject ≡ y) × IsCert nodes k
  by_test rest true e =
      let found : Some j ≡ Some k = rw e at h in
      let same : j ≡ k = cc in
      rw (← same) (eqb-true j.subject y e, fit.1)
  by_test rest false e = rest (rw e at h)

-- a certificate of a node before the rows goes in front
put_before : (nodes x : ℕ) (rows : List (Option Cert)) (c : Cert) → AreRowsFrom nodes x rows → c.subject < x → put (entries_of rows) c ≡ c ∷ entries_of rows
put_before nodes x [] c fit less = refl
put_before nodes x (None ∷ rows) c fit less = put_before nodes (x + 1) rows c fit (omega arith)
put_before nodes x (Some k ∷ rows) c fit less =
    let away : k.subject == c.subject ≡ false = ne_eqb k.subject c.subject (λ h. omega (arith, fit.0, h)) in
    let first : nat_lt c.subject k.subject ≡ true = lt-ltb c.subject k.subject (omega (arith, fit.0)) in
    rw (away, first)

-- setting the row of a node is putting its certificate
put_from : (nodes x i : ℕ) (rows : List (Option Cert)) (c : Cert) → AreRowsFrom nodes x rows → c.subject ≡ x + i → i < length rows → put (entries_of rows) c ≡ entries_of (set rows i (Some c))
put_from nodes x i [] c fit e within = absurd (omega arith)
put_from nodes x zero (None ∷ rows) c fit e within = put_before nodes (x + 1) rows c fit (omega arith)
put_from nodes x (suc i) (None ∷ rows) c fit e within = put_from nodes (x + 1) i rows c fit (omega arith) (omega arith)
put_from nodes x zero (Some k ∷ rows) c fit e within = let is : k.subject == c.subject ≡ true = eq-eqb k.subject c.subject (omega (arith, fit.0)) in rw is
put_from nodes x (suc i) (Some k ∷ rows) c fit e within =
    let away : k.subject == c.subject ≡ false = ne_eqb k.subject c.subject (λ h. omega (arith, fit.0, h)) in
    let later : nat_lt c.subject k.subject ≡ false = le-ltb c.subject k.subject (omega (arith, fit.0)) in
    rw (away, later) (ap (λ ks. k ∷ ks) (put_from nodes (x + 1) i rows c fit.2 (omega arith) (omega arith)))

-- the same for all rows
pub put_row : (rows : List (Option Cert)) (c : Cert) → AreRows rows → IsNode (length rows) c.subject → entries_of (set rows (c.subject - 1) (Some c)) ≡ put (entries_of rows) c
put_row rows c fit node = sym (put_from (length rows) 1 (c.subject - 1) rows c fit (omega arith) (omega arith))

-- a look at a place finds its certificate, if there is one
pub found_row : (row : Option (Bor (Option Cert))) → option_flatten (option_copied row) ≡ unwrap_or (option_map (λ (x : Bor (Option Cert)). x.now) row) None
found_row None = refl
found_row (Some row) = refl

-- the certificate in a row is about the row's node
pub row_fits : (rows : List (Option Cert)) (y : ℕ) (row : Option Cert) → AreRows rows → row ≡ newest (entries_of rows) y → IfSome row (λ k. (k.subject ≡ y) × IsCert (length rows) k)
row_fits rows y None fit e = tt
row_fits rows y (Some k) fit e = newest_fits (length rows) 1 y rows k fit (sym e)

-- the certificate that was put is the newest of its subject
newest-put : (t : List Cert) (c : Cert) → newest (put t c) c.subject ≡ Some c
newest-put [] c = let is : c.subject == c.subject ≡ true = eq-eqb c.subject c.subject refl in rw is
newest-put (k ∷ ks) c = by_tests (newest-put ks c) (k.subject == c.subject) refl (nat_lt c.subject k.subject) refl where
  is : c.subject == c.subject ≡ true
  is = eq-eqb c.subject c.subject refl

  by_tests : newest (put ks c) c.subject ≡ Some c → (a : Bool) → k.subject == c.subject ≡ a → (b : Bool) → nat_lt c.subject k.subject ≡ b → newest (put (k ∷ ks) c) c.subject ≡ Some c
  by_tests rest true e b h = rw (e, is)
  by_tests rest false e true h = rw (e, h, is)
  by_tests rest false e false h = rw (e, h, e) rest

-- the same for the table after the put
pub put_found : (t u : List Cert) (c : Cert) → u ≡ put t c → newest u c.subject ≡ Some c
put_found t u c e = rw e (newest-put t c)

-- rows stay rows where one is set
set_fits_from : (nodes x i : ℕ) (rows : List (Option Cert)) (c : Cert) → AreRowsFrom nodes x rows → c.subject ≡ x + i → IsCert nodes c → AreRowsFrom nodes x (set rows i (Some c))
set_fits_from nodes x i [] c fit e fits = tt
set_fits_from nodes x zero (None ∷ rows) c fit e fits = (omega arith, fits, fit)
set_fits_from nodes x (suc i) (None ∷ rows) c fit e fits = set_fits_from nodes (x + 1) i rows c fit (omega arith) fits
set_fits_from nodes x zero (Some k ∷ rows) c fit e fits = (omega arith, fits, fit.2)
set_fits_from nodes x (suc i) (Some k ∷ rows) c fit e fits = (fit.0, fit.1, set_fits_from nodes (x + 1) i rows c fit.2 (omega arith) fits)

-- the same for all rows
pub set_fits : (rows : List (Option Cert)) (c : Cert) → AreRows rows → IsCert (length rows) c → AreRows (set rows (c.subject - 1) (Some c))
set_fits rows c fit fits = subst (λ n. AreRowsFrom n 1 (set rows (c.subject - 1) (Some c))) (sym (length-set rows (c.subject - 1) (Some c))) (set_fits_from (length rows) 1 (c.subject - 1) rows c fit (omega (arith, fits.subject)) fits)

-- rows without a certificate
none_from : (nodes x n : ℕ) → AreRowsFrom nodes x (replicate n None)
none_from nodes x zero = tt
none_from nodes x (suc n) = none_from nodes (x + 1) n

-- rows without a certificate are rows
pub no_rows : (n : ℕ) → AreRows (replicate n None)
no_rows n = none_from (length (replicate n None)) 1 n

-- rows without certificates are rows of nodes, and their number is within the limit
pub filled_rows : (rows : List (Option Cert)) (n most : ℕ) → rows ≡ replicate n None → n ≤ most → AreRows rows × (length rows ≤ most)
filled_rows rows n most e few =
    subst (λ rs. AreRows rs × (length rs ≤ most)) (sym e) (no_rows n, subst (λ k. k ≤ most) (sym (length-replicate {A = Option Cert} n None)) few)

-- rows without certificates give no entries
pub no_entries : (n : ℕ) → entries_of (replicate n None) ≡ []
no_entries zero = refl
no_entries (suc n) = no_entries n

-- no entry is left once only empty rows are left
pub no_more_entries : (rows : List (Option Cert)) (k n : ℕ) → drop k rows ≡ replicate n None → entries_of (drop k rows) ≡ []
no_more_entries rows k n e = rw e (no_entries n)

pub no_entries_past : (rows : List (Option Cert)) (used k n : ℕ) (blank : Option Cert) → used ≤ k → drop used rows ≡ replicate n blank → blank ≡ None → entries_of (drop k rows) ≡ []
no_entries_past rows used k n blank past e none =
    let further : drop (k - used) (drop used rows) ≡ drop k rows = drop-drop (k - used) used rows ∙ ap (λ i. drop i rows) (omega (arith, past)) in
    no_more_entries rows k (n - (k - used)) (sym further ∙ ap (drop (k - used)) (e ∙ ap (replicate n) none) ∙ drop-replicate (k - used) n None)

-- the number of entries is at most that of the rows
pub fewer_entries : (rows : List (Option Cert)) → length (entries_of rows) ≤ length rows
fewer_entries [] = omega arith
fewer_entries (None ∷ rows) = omega (arith, fewer_entries rows)
fewer_entries (Some k ∷ rows) = omega (arith, fewer_entries rows)
