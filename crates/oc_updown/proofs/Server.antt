-- The properties of the best server.
use Rattle.std.proofs.Common.{◌≡◌, ℕ, Bool, true, false, ◌==◌, nat_lt, Option, Some, None, List, [], ◌∷◌, ◌⊎◌, inl, inr, map, refl, sym, ◌∙◌, arith}
use Rattle.std.proofs.lemmas.Bool.{cases_Bool}
use Rattle.std.specs.Prelude.{filter}
use Rattle.std.proofs.lemmas.Bool.Decides.{nat_tests}
use Rattle.oc_base.specs.declared.cert.Cert.{Cert}
use Rattle.oc_model.specs.Numbers.{at, IsAmong}
use Rattle.oc_model.specs.Selected.{is_freer, servers, selected}
use Rattle.oc_model.specs.Table.{newest, live_parent, parent_in, is_listed, IsWay}
use Rattle.oc_model.proofs.Walks.{is_listed-exact}
use Rattle.oc_updown.specs.Better.{is_near, is_better}
use Rattle.oc_updown.specs.Server.{IsServer, IsFreer, IsBestServer}
use Rattle.oc_updown.proofs.Better.{IsBestOf, best_is, best_none}
use Rattle.oc_updown.proofs.FreestServer.{freest_best, alike, inside}
use Rattle.oc_updown.proofs.Lists.{among_filtered, filtered_among}

-- a node with a row is among the subjects
row_among : (t : List Cert) (x : ℕ) (k : Cert) → newest t x ≡ Some k → IsAmong x (map (λ (c : Cert). c.subject) t)
row_among [] x k e = absurd cc
row_among (c ∷ t) x k e = by_test (λ rest. row_among t x k rest) (c.subject == x) refl where
  by_test : (newest t x ≡ Some k → IsAmong x (map (λ (c : Cert). c.subject) t)) → (b : Bool) → c.subject == x ≡ b → (c.subject ≡ x) ⊎ IsAmong x (map (λ (c : Cert). c.subject) t)
  by_test rest true h = inl (grind (arith, nat_tests))
  by_test rest false h = inr (rest (rw h at e))

-- a node with a parent has a row
parent_row : (o : Option Cert) (y : ℕ) → live_parent o ≡ Some y → (k : Cert) × (o ≡ Some k)
parent_row None y e = absurd cc
parent_row (Some k) y e = (k, refl)

-- a listed node has a parent
listed_parent : (t : List Cert) (r x : ℕ) (ys : List ℕ) → IsWay t r x ys → (y : ℕ) × (parent_in t x ≡ Some y)
listed_parent t r x [] way = (r, way)
listed_parent t r x (y ∷ ys) way = (y, way.0)

-- a node among the servers of the table is a server
pub among_servers : (t : List Cert) (me chain x : ℕ) → IsAmong x (servers t me chain) → IsServer t me chain x
among_servers t me chain x h =
    let a = among_filtered (λ y. nat_lt chain y) (filter (is_listed t me) (map (λ (c : Cert). c.subject) t)) x h in
    let b = among_filtered (is_listed t me) (map (λ (c : Cert). c.subject) t) x a.0 in
    let past : nat_lt chain x ≡ true = a.1 in
    (grind (arith, nat_tests), (is_listed-exact t me x).0 b.1)

-- each server is among the servers of the table
pub servers_among : (t : List Cert) (me chain x : ℕ) → IsServer t me chain x → IsAmong x (servers t me chain)
servers_among t me chain x s =
    let past : nat_lt chain x ≡ true = (let h = s.0 in grind (arith, nat_tests)) in
    let p = listed_parent t me x s.1.1.0 s.1.1.1 in
    let k = parent_row (newest t x) p.0 p.1 in
    filtered_among (λ y. nat_lt chain y) (filter (is_listed t me) (map (λ (c : Cert). c.subject) t)) x past
    (filtered_among (is_listed t me) (map (λ (c : Cert). c.subject) t) x ((is_listed-exact t me x).1 s.1) (row_among t x k.0 k.1))

-- a node that passes the test is in the area
near_area : (areas : List ℕ) (area x : ℕ) → is_near areas area x ≡ true → at areas x 0 ≡ area
near_area areas area x h = grind (arith, nat_tests)

-- a node in the area passes the test
area_near : (areas : List ℕ) (area x : ℕ) → at areas x 0 ≡ area → is_near areas area x ≡ true
area_near areas area x h = grind (arith, nat_tests)

-- a freer node passes the test
freer_test : (counts : List ℕ) (x y : ℕ) → IsFreer counts x y → is_freer counts x y ≡ true
freer_test counts x y (inl h) = grind (arith, nat_tests)
freer_test counts x y (inr h) = grind (arith, nat_tests)

-- a node than which none is better is in the area if another one is
near_best : (areas counts : List ℕ) (area x k : ℕ) → is_better areas counts area x k ≡ false → is_near areas area x ≡ true → is_near areas area k ≡ true
near_best areas counts area x k h e = elim (cases_Bool (is_near areas area k)) [
  | inl yes_near ↦ yes_near
  | inr far ↦ absurd (let f : true ≡ false = sym (inside areas counts area k x far e) ∙ h in cc)
]

-- no node is freer than the best, unless only the best one is in the area
least_best : (areas counts : List ℕ) (area x k : ℕ) → is_better areas counts area x k ≡ false → (is_near areas area k ≡ true → is_near areas area x ≡ true) → is_freer counts x k ≡ false
least_best areas counts area x k h f = by_test (is_near areas area k) refl (is_near areas area x) refl where
  by_test : (b : Bool) → is_near areas area k ≡ b → (c : Bool) → is_near areas area x ≡ c → is_freer counts x k ≡ false
  by_test true e true g = sym (alike areas counts area k x true e g) ∙ h
  by_test true e false g = absurd (let w : true ≡ false = sym (f e) ∙ g in cc)
  by_test false e true g = absurd (let w : true ≡ false = sym (inside areas counts area k x e g) ∙ h in cc)
  by_test false e false g = sym (alike areas counts area k x false e g) ∙ h

-- the best of the servers by the test is the best server
best_server : (t : List Cert) (me chain : ℕ) (areas counts : List ℕ) (area k : ℕ) → IsBestOf (is_better areas counts area) (servers t me chain) k → IsBestServer t me chain areas counts area k
best_server t me chain areas counts area k b = record {
  server = among_servers t me chain k b.among;
  near = λ x s h. near_area areas area k (near_best areas counts area x k (b.least x (servers_among t me chain x s)) (area_near areas area x h));
  least = λ x s alike_near freer. (let none = least_best areas counts area x k (b.least x (servers_among t me chain x s)) (λ h. area_near areas area x (alike_near (near_area areas area k h))) in let w : true ≡ false = sym (freer_test counts x k freer) ∙ none in absurd cc);
}

-- the selected node is the best of the servers
pub selected_best : (t : List Cert) (me chain : ℕ) (areas counts : List ℕ) (area k : ℕ) → selected t me chain areas counts area ≡ Some k → IsBestServer t me chain areas counts area k
selected_best t me chain areas counts area k e = best_server t me chain areas counts area k (best_is areas counts area (servers t me chain) k (sym (freest_best areas counts area (servers t me chain)) ∙ e))

-- no node is a server if none is selected
pub selected_none : (t : List Cert) (me chain : ℕ) (areas counts : List ℕ) (area : ℕ) → selected t me chain areas counts area ≡ None → (x : ℕ) → ¬ IsServer t me chain x
selected_none t me chain areas counts area e x s = best_none (is_better areas counts area) (servers t me chain) x (sym (freest_best areas counts area (servers t me chain)) ∙ e) (servers_among t me chain x s)
