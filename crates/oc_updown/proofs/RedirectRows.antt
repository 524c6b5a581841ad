-- The nodes of a table, and those past the chain.
use Rattle.std.proofs.Common.{◌≡◌, ℕ, zero, suc, ◌+◌, ◌-◌, ◌<◌, ◌≤◌, Bool, true, false, not, ◌&&◌, ◌==◌, nat_lt, if◌then◌else◌, Option, Some, None, List, [], ◌∷◌, length, map, take, drop, replicate, refl, ap, sym, ◌∙◌, arith, ne_eqb, length-take}
use Rattle.std.specs.Prelude.{filter}
use Rattle.std.specs.List.{range_with_len}
use Rattle.std.proofs.lemmas.Bool.Decides.{nat_tests}
use Rattle.oc_base.specs.declared.cert.Cert.{Cert}
use Rattle.oc_model.specs.Table.{newest, live_parent, reaches, is_listed}
use Rattle.oc_model.specs.Selected.{servers}
use Rattle.oc_model.proofs.Walks.{walk_ends}
use Rattle.oc_updown.specs.TableView.{AreRowsFrom, AreRows, entries_of}
use Rattle.oc_updown.proofs.Entries.{no_entries_past}
use Rattle.oc_updown.proofs.Lists.{filter_taken, filter_left, filter_either}

-- the rows from a node on have no certificate of a node before it
newest_before : (nodes x y : ℕ) (rows : List (Option Cert)) → AreRowsFrom nodes x rows → y < x → newest (entries_of rows) y ≡ None
newest_before nodes x y [] fit less = refl
newest_before nodes x y (None ∷ rows) fit less = newest_before nodes (x + 1) y rows fit (omega arith)
newest_before nodes x y (Some k ∷ rows) fit less =
    let away : k.subject == y ≡ false = ne_eqb k.subject y (λ h. omega (arith, fit.0, h)) in
    rw away (newest_before nodes (x + 1) y rows fit.2 (omega arith))

-- a test that no node without a row passes leaves as many of the rows as of the nodes
pub filter_rows : (nodes x : ℕ) (rows : List (Option Cert)) (p : ℕ → Bool) → AreRowsFrom nodes x rows → ((y : ℕ) → x ≤ y → newest (entries_of rows) y ≡ None → p y ≡ false) → filter p (map (λ (k : Cert). k.subject) (entries_of rows)) ≡ filter p (range_with_len x (length rows))
filter_rows nodes x [] p fit h = refl
filter_rows nodes x (None ∷ rows) p fit h =
    filter_rows nodes (x + 1) rows p fit (λ y le e. h y (omega arith) e)
    ∙ sym (filter_left p x (range_with_len (x + 1) (length rows)) (h x (omega arith) (newest_before nodes (x + 1) x rows fit (omega arith))))
filter_rows nodes x (Some k ∷ rows) p fit h =
    let subjects = map (λ (k : Cert). k.subject) (entries_of rows) in
    let rest : filter p subjects ≡ filter p (range_with_len (x + 1) (length rows)) =
    filter_rows nodes (x + 1) rows p fit.2 (λ y le e. h y (omega arith) (let away : k.subject == y ≡ false = ne_eqb k.subject y (λ s. omega (arith, fit.0, s)) in rw away e)) in
    ap (λ (z : ℕ). filter p (z ∷ subjects)) fit.0 ∙ ap (λ (l : List ℕ). if p x then x ∷ l else l) rest

-- a conjunction with a false fact is false
and_no : (b : Bool) → (b && false) ≡ false
and_no true = refl
and_no false = refl

-- a node without a row is not listed
unlisted : (t : List Cert) (me y : ℕ) → newest t y ≡ None → is_listed t me y ≡ false
unlisted t me y e =
    ap (λ (o : Option Cert). not (y == me) && reaches (length t) t me (live_parent o)) e
    ∙ ap (λ (b : Bool). not (y == me) && b) (walk_ends (length t) t me)
    ∙ and_no (not (y == me))

-- all nodes from one past the chain on are past the chain
all_past : (chain a n : ℕ) → chain < a → filter (λ x. nat_lt chain x) (range_with_len a n) ≡ range_with_len a n
all_past chain a zero h = refl
all_past chain a (suc n) h =
    filter_taken (λ x. nat_lt chain x) a (range_with_len (a + 1) n) (grind (arith, nat_tests))
    ∙ ap (λ (xs : List ℕ). a ∷ xs) (all_past chain (a + 1) n (omega arith))

-- the nodes past the chain, among those from a number on that is at most the first past the chain
pub some_past : (chain a n : ℕ) → a ≤ chain + 1 → filter (λ x. nat_lt chain x) (range_with_len a n) ≡ range_with_len (chain + 1) (a + n - (chain + 1))
some_past chain a zero h = let none : a + 0 - (chain + 1) ≡ 0 = omega arith in ap (λ (n : ℕ). range_with_len (chain + 1) n) (sym none)
some_past chain a (suc n) h = by_test (λ near. some_past chain (a + 1) n near) (nat_lt chain a) refl where
  by_test : (a + 1 ≤ chain + 1 → filter (λ x. nat_lt chain x) (range_with_len (a + 1) n) ≡ range_with_len (chain + 1) (a + 1 + n - (chain + 1))) → (b : Bool) → nat_lt chain a ≡ b → filter (λ x. nat_lt chain x) (range_with_len a (suc n)) ≡ range_with_len (chain + 1) (a + suc n - (chain + 1))
  by_test rest true e =
      let past : chain < a = grind (arith, nat_tests) in
      let first : a ≡ chain + 1 = omega arith in
      let all : suc n ≡ a + suc n - (chain + 1) = omega arith in
      all_past chain a (suc n) past ∙ ap (λ (m : ℕ). range_with_len m (suc n)) first ∙ ap (λ (m : ℕ). range_with_len (chain + 1) m) all
  by_test rest false e =
      let before : a ≤ chain = grind (arith, nat_tests) in
      let all : a + 1 + n - (chain + 1) ≡ a + suc n - (chain + 1) = omega arith in
      filter_left (λ x. nat_lt chain x) a (range_with_len (a + 1) n) e ∙ rest (omega arith) ∙ ap (λ (m : ℕ). range_with_len (chain + 1) m) all

-- the servers are the listed ones of the nodes past the chain
servers_are : (nodes : ℕ) (rows : List (Option Cert)) (me chain : ℕ) → AreRowsFrom nodes 1 rows → servers (entries_of rows) me chain ≡ filter (is_listed (entries_of rows) me) (range_with_len (chain + 1) (length rows - chain))
servers_are nodes rows me chain fit =
    let t = entries_of rows in
    let n = length rows in
    let all : 1 + n - (chain + 1) ≡ n - chain = omega arith in
    ap (λ (xs : List ℕ). filter (λ x. nat_lt chain x) xs) (filter_rows nodes 1 rows (is_listed t me) fit (λ y le e. unlisted t me y e))
    ∙ filter_either (λ x. nat_lt chain x) (is_listed t me) (range_with_len 1 n)
    ∙ ap (λ (xs : List ℕ). filter (is_listed t me) xs) (some_past chain 1 n (omega arith) ∙ ap (λ (m : ℕ). range_with_len (chain + 1) m) all)

-- rows from the first one on
front_rows : (nodes x k : ℕ) (rows : List (Option Cert)) → AreRowsFrom nodes x rows → AreRowsFrom nodes x (take k rows)
front_rows nodes x zero rows fit = tt
front_rows nodes x (suc k) [] fit = tt
front_rows nodes x (suc k) (None ∷ rows) fit = front_rows nodes (x + 1) k rows fit
front_rows nodes x (suc k) (Some c ∷ rows) fit = (fit.0, fit.1, front_rows nodes (x + 1) k rows fit.2)

-- they have all entries, where the others have none
front_entries : (k : ℕ) (rows : List (Option Cert)) → entries_of (drop k rows) ≡ [] → entries_of rows ≡ entries_of (take k rows)
front_entries zero rows none = none
front_entries (suc k) [] none = refl
front_entries (suc k) (None ∷ rows) none = front_entries k rows none
front_entries (suc k) (Some c ∷ rows) none = ap (λ (es : List Cert). c ∷ es) (front_entries k rows none)

-- no server is past the rows in use
pub servers_used : (rows : List (Option Cert)) (me chain used n : ℕ) (blank : Option Cert) → AreRows rows → used ≤ length rows → drop used rows ≡ replicate n blank → blank ≡ None
    → servers (entries_of rows) me chain ≡ filter (is_listed (entries_of rows) me) (range_with_len (chain + 1) (used - chain))
servers_used rows me chain used n blank fit within rest unused =
    let cut : entries_of rows ≡ entries_of (take used rows) = front_entries used rows (no_entries_past rows used used n blank (omega arith) rest unused) in
    let many : length (take used rows) ≡ used = omega (arith, length-take used rows, within) in
    ap (λ (t : List Cert). servers t me chain) cut
    ∙ servers_are (length rows) (take used rows) me chain (front_rows (length rows) 1 used rows fit)
    ∙ ap (λ (m : ℕ). filter (is_listed (entries_of (take used rows)) me) (range_with_len (chain + 1) (m - chain))) many
    ∙ ap (λ (t : List Cert). filter (is_listed t me) (range_with_len (chain + 1) (used - chain))) (sym cut)
