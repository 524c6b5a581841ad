-- Ways up a table: as many steps as the table has rows find one wherever there is one.
use Rattle.std.proofs.Common.{◌≡◌, ◌↔◌, IsTrue, ℕ, zero, suc, ◌+◌, ◌-◌, ◌<◌, ◌≤◌, Bool, true, false, not, ◌||◌, ◌==◌, if◌then◌else◌, Option, Some, None, List, [], ◌∷◌, length, refl, ap, sym, subst, ◌∙◌, ◌⊎◌, inl, inr, arith, true≢false, eqb-true, eq-eqb, ne_eqb}
use Rattle.std.proofs.lemmas.Bool.{eqb-false, and_parts, and_from, or_cases, or_left, or_right, not-true, not_from_false}
use Rattle.oc_base.specs.declared.cert.Cert.{Cert}
use Rattle.oc_model.specs.Table.{newest, live_parent, parent_in, IsWay, IsListed, reaches, is_listed}

-- the table without the rows of x
abbrev without : ℕ → List Cert → List Cert
without x [] = []
without x (k ∷ ks) = if k.subject == x then without x ks else k ∷ without x ks

-- the last word on another node stays
newest-without : (x y : ℕ) (t : List Cert) → (y ≡ x → ⊥) → newest (without x t) y ≡ newest t y
newest-without x y [] other = refl
newest-without x y (k ∷ ks) other = by_test (newest-without x y ks other) (k.subject == x) refl where
  by_test : newest (without x ks) y ≡ newest ks y → (b : Bool) → k.subject == x ≡ b → newest (without x (k ∷ ks)) y ≡ newest (k ∷ ks) y
  by_test rest true e =
      let is : k.subject ≡ x = eqb-true k.subject x e in
      let away : k.subject == y ≡ false = ne_eqb k.subject y (λ h. other (sym h ∙ is)) in
      rw (e, away) rest
  by_test rest false e = rw e (by_own (k.subject == y) refl) where
    by_own : (b : Bool) → k.subject == y ≡ b → newest (k ∷ without x ks) y ≡ newest (k ∷ ks) y
    by_own true h = rw h
    by_own false h = rw h rest

-- no table gets longer so
length-without : (x : ℕ) (t : List Cert) → length (without x t) ≤ length t
length-without x [] = omega arith
length-without x (k ∷ ks) = by_test (length-without x ks) (k.subject == x) refl where
  by_test : length (without x ks) ≤ length ks → (b : Bool) → k.subject == x ≡ b → length (without x (k ∷ ks)) ≤ length (k ∷ ks)
  by_test rest true e = rw e (omega arith)
  by_test rest false e = rw e (omega arith)

-- one with a row of x gets shorter
shorter_without : (x y : ℕ) (t : List Cert) → parent_in t x ≡ Some y → length (without x t) < length t
shorter_without x y [] h = absurd cc
shorter_without x y (k ∷ ks) h = by_test (λ g. shorter_without x y ks g) (k.subject == x) refl where
  by_test : (parent_in ks x ≡ Some y → length (without x ks) < length ks) → (b : Bool) → k.subject == x ≡ b → length (without x (k ∷ ks)) < length (k ∷ ks)
  by_test rest true e = rw e (omega (arith, length-without x ks))
  by_test rest false e = rw e (omega (arith, rest (rw e at h)))

-- the nodes of a list are others than x
abbrev AreOthers : ℕ → List ℕ → Type 0
AreOthers x [] = Unit {0}
AreOthers x (y ∷ ys) = (y ≡ x → ⊥) × AreOthers x ys

-- a way that does not come by x needs no row of x
way_without : (x r z : ℕ) (t : List Cert) (ys : List ℕ) → (z ≡ x → ⊥) → AreOthers x ys → IsWay t r z ys → IsWay (without x t) r z ys
way_without x r z t [] other all way = rw (newest-without x z t other) way
way_without x r z t (y ∷ ys) other all way = (rw (newest-without x z t other) way.0, way_without x r y t ys all.0 all.1 way.1)

-- a way comes by x, and then a way goes on from the last time, or it does not
last_visit : (x r z : ℕ) (t : List Cert) (ys : List ℕ) → IsWay t r z ys → ((zs : List ℕ) × IsWay t r x zs × AreOthers x zs) ⊎ AreOthers x ys
last_visit x r z t [] way = inr tt
last_visit x r z t (y ∷ ys) way = by_rest (last_visit x r y t ys way.1) where
  by_rest : ((zs : List ℕ) × IsWay t r x zs × AreOthers x zs) ⊎ AreOthers x ys → ((zs : List ℕ) × IsWay t r x zs × AreOthers x zs) ⊎ AreOthers x (y ∷ ys)
  by_rest (inl found) = inl found
  by_rest (inr others) = by_test (y == x) refl where
    by_test : (b : Bool) → y == x ≡ b → ((zs : List ℕ) × IsWay t r x zs × AreOthers x zs) ⊎ AreOthers x (y ∷ ys)
    by_test true e = inl (ys, subst (λ (z : ℕ). IsWay t r z ys) (eqb-true y x e) way.1, others)
    by_test false e = inr (eqb-false y x e, others)

-- where there is a way up from x, one does not come by x again
straight_way : (x r : ℕ) (t : List Cert) (ys : List ℕ) → IsWay t r x ys → (zs : List ℕ) × IsWay t r x zs × AreOthers x zs
straight_way x r t ys way = by_visit (last_visit x r x t ys way) where
  by_visit : ((zs : List ℕ) × IsWay t r x zs × AreOthers x zs) ⊎ AreOthers x ys → (zs : List ℕ) × IsWay t r x zs × AreOthers x zs
  by_visit (inl found) = found
  by_visit (inr others) = (ys, way, others)

-- there is no word on x without its rows
newest-without_own : (x : ℕ) (t : List Cert) → newest (without x t) x ≡ None
newest-without_own x [] = refl
newest-without_own x (k ∷ ks) = by_test (newest-without_own x ks) (k.subject == x) refl where
  by_test : newest (without x ks) x ≡ None → (b : Bool) → k.subject == x ≡ b → newest (without x (k ∷ ks)) x ≡ None
  by_test rest true e = rw e rest
  by_test rest false e = rw (e, e) rest

-- a parent in a table without the rows of x is one in the whole
parent_within : (x z y : ℕ) (t : List Cert) → parent_in (without x t) z ≡ Some y → parent_in t z ≡ Some y
parent_within x z y t h = by_test (z == x) refl where
  by_test : (b : Bool) → z == x ≡ b → parent_in t z ≡ Some y
  by_test true e =
      let none : parent_in (without x t) x ≡ None = ap live_parent (newest-without_own x t) in
      let here : parent_in (without x t) x ≡ Some y = subst (λ (u : ℕ). parent_in (without x t) u ≡ Some y) (eqb-true z x e) h in
      absurd cc
  by_test false e = sym (ap live_parent (newest-without x z t (eqb-false z x e))) ∙ h

-- a walk that arrives without the rows of x arrives with them
reaches_within : (steps x r : ℕ) (t : List Cert) (p q : Option ℕ) → ((y : ℕ) → p ≡ Some y → q ≡ Some y) → reaches steps (without x t) r p ≡ true → reaches steps t r q ≡ true
reaches_within zero x r t p q more h = absurd (true≢false (sym h))
reaches_within (suc n) x r t None q more h = absurd (true≢false (sym h))
reaches_within (suc n) x r t (Some y) q more h = rw (more y refl) (by_cases (λ g. reaches_within n x r t (parent_in (without x t) y) (parent_in t y) (λ z e. parent_within x y z t e) g) (or_cases (y == r) (reaches n (without x t) r (parent_in (without x t) y)) h)) where
  by_cases : (reaches n (without x t) r (parent_in (without x t) y) ≡ true → reaches n t r (parent_in t y) ≡ true) → (y == r ≡ true) ⊎ (reaches n (without x t) r (parent_in (without x t) y) ≡ true) → (y == r || reaches n t r (parent_in t y)) ≡ true
  by_cases on (inl e) = or_left (y == r) (reaches n t r (parent_in t y)) e
  by_cases on (inr g) = or_right (y == r) (reaches n t r (parent_in t y)) (on g)

-- where there is a way, a walk of as many steps as there are rows arrives
pub walk_arrives : (steps : ℕ) (t : List Cert) (r x : ℕ) (ys : List ℕ) → length t ≤ steps → IsWay t r x ys → reaches steps t r (parent_in t x) ≡ true
walk_arrives zero [] r x [] few way = absurd cc
walk_arrives zero [] r x (y ∷ ys) few way = let first : parent_in [] x ≡ Some y = way.0 in absurd cc
walk_arrives zero (k ∷ ks) r x ys few way = absurd (omega arith)
walk_arrives (suc n) t r x ys few way = by_way (λ z zs fewer way. walk_arrives n (without x t) r z zs fewer way) (straight_way x r t ys way) where
  by_way : ((z : ℕ) (zs : List ℕ) → length (without x t) ≤ n → IsWay (without x t) r z zs → reaches n (without x t) r (parent_in (without x t) z) ≡ true) → ((zs : List ℕ) × IsWay t r x zs × AreOthers x zs) → reaches (suc n) t r (parent_in t x) ≡ true
  by_way arrives ([], up, others) = rw up (or_left (r == r) (reaches n t r (parent_in t r)) (eq-eqb r r refl))
  by_way arrives (y ∷ zs, up, others) =
      let fewer : length (without x t) ≤ n = omega (arith, shorter_without x y t up.0) in
      let on : reaches n (without x t) r (parent_in (without x t) y) ≡ true = arrives y zs fewer (way_without x r y t zs others.0 others.1 up.1) in
      let whole : reaches n t r (parent_in t y) ≡ true = reaches_within n x r t (parent_in (without x t) y) (parent_in t y) (λ z e. parent_within x y z t e) on in
      rw up.0 (or_right (y == r) (reaches n t r (parent_in t y)) whole)

-- a walk that arrives went along a way
pub way_of_walk : (steps : ℕ) (t : List Cert) (r x : ℕ) (p : Option ℕ) → parent_in t x ≡ p → reaches steps t r p ≡ true → (ys : List ℕ) × IsWay t r x ys
way_of_walk zero t r x p e h = absurd (true≢false (sym h))
way_of_walk (suc n) t r x None e h = absurd (true≢false (sym h))
way_of_walk (suc n) t r x (Some y) e h = by_cases (λ on. way_of_walk n t r y (parent_in t y) refl on) (or_cases (y == r) (reaches n t r (parent_in t y)) h) where
  by_cases : (reaches n t r (parent_in t y) ≡ true → (ys : List ℕ) × IsWay t r y ys) → (y == r ≡ true) ⊎ (reaches n t r (parent_in t y) ≡ true) → (ys : List ℕ) × IsWay t r x ys
  by_cases further (inl is) = ([], subst (λ (z : ℕ). parent_in t x ≡ Some z) (eqb-true y r is) e)
  by_cases further (inr on) = let rest : (ys : List ℕ) × IsWay t r y ys = further on in (y ∷ rest.0, (e, rest.1))

-- more steps than there are rows find no more
pub steps_enough : (m n : ℕ) (t : List Cert) (r x : ℕ) → length t ≤ m → length t ≤ n → reaches m t r (parent_in t x) ≡ reaches n t r (parent_in t x)
steps_enough m n t r x few few' = by_cases (reaches m t r (parent_in t x)) refl (reaches n t r (parent_in t x)) refl where
  by_cases : (a : Bool) → reaches m t r (parent_in t x) ≡ a → (b : Bool) → reaches n t r (parent_in t x) ≡ b → reaches m t r (parent_in t x) ≡ reaches n t r (parent_in t x)
  by_cases true e true h = e ∙ sym h
  by_cases false e false h = e ∙ sym h
  by_cases true e false h =
      let way : (ys : List ℕ) × IsWay t r x ys = way_of_walk m t r x (parent_in t x) refl e in
      absurd (true≢false (sym (walk_arrives n t r x way.0 few' way.1) ∙ h))
  by_cases false e true h =
      let way : (ys : List ℕ) × IsWay t r x ys = way_of_walk n t r x (parent_in t x) refl h in
      absurd (true≢false (sym (walk_arrives m t r x way.0 few way.1) ∙ e))

-- the walk finds exactly who is listed
pub is_listed-exact : (t : List Cert) (r x : ℕ) → (is_listed t r x ≡ true) ↔ IsListed t r x
is_listed-exact t r x = (there, back) where
  there : is_listed t r x ≡ true → IsListed t r x
  there h =
      let both : (not (x == r) ≡ true) × (reaches (length t) t r (parent_in t x) ≡ true) = and_parts (not (x == r)) (reaches (length t) t r (parent_in t x)) h in
      (eqb-false x r (not-true (x == r) both.0), way_of_walk (length t) t r x (parent_in t x) refl both.1)

  back : IsListed t r x → is_listed t r x ≡ true
  back listed = and_from (not (x == r)) (reaches (length t) t r (parent_in t x)) (not_from_false (x == r) (ne_eqb x r listed.0)) (walk_arrives (length t) t r x listed.1.0 (omega arith) listed.1.1)

-- one step of a walk that is under way: it arrived, or goes on with one step fewer
pub walk_step : (steps i : ℕ) (t : List Cert) (r y : ℕ) → i < steps → reaches (steps - i) t r (Some y) ≡ (y == r || reaches (steps - (i + 1)) t r (parent_in t y))
walk_step steps i t r y within = let e : steps - i ≡ suc (steps - (i + 1)) = omega arith in rw e

-- without a parent no walk arrives
pub walk_ends : (steps : ℕ) (t : List Cert) (r : ℕ) → reaches steps t r None ≡ false
walk_ends zero t r = refl
walk_ends (suc n) t r = refl

-- without steps no walk arrives
pub walk_over : (steps : ℕ) (t : List Cert) (r : ℕ) (p : Option ℕ) → steps ≡ 0 → reaches steps t r p ≡ false
walk_over steps t r p e = rw e

-- a walk with as many steps as there are nodes tells whether a node other than the root is listed
pub listed_walk : (steps : ℕ) (t : List Cert) (r x : ℕ) → length t ≤ steps → x == r ≡ false → reaches steps t r (parent_in t x) ≡ is_listed t r x
listed_walk steps t r x few other = rw other (steps_enough steps (length t) t r x few (omega arith))

-- a test that says the same as the walk holds exactly where the node is listed
pub listed_exactly : (b : Bool) (t : List Cert) (r x : ℕ) → b ≡ is_listed t r x → IsTrue b ↔ IsListed t r x
listed_exactly b t r x e = rw e (is_listed-exact t r x)
