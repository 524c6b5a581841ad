-- The leased children of a table: each has its lease, and the first that passes a test is the least.
use Rattle.std.proofs.Common.{◌≡◌, ℕ, ◌<◌, ◌≤◌, Bool, true, false, if◌then◌else◌, Some, None, List, [], ◌∷◌, ◌⊎◌, inl, inr, map, filter, find, refl, ap, sym, subst, ◌∙◌, arith}
use Rattle.std.specs.List.{AllByRecursion}
use Rattle.std.proofs.lemmas.Bool.{true≢false}
use Rattle.oc_base.specs.declared.cert.Cert.{Cert}
use Rattle.oc_model.specs.Table.{newest, is_lease_of, lease_number, leased_by, leased_children}
use Rattle.oc_model.specs.WorldBounds.{IsOneOf}
use Rattle.oc_laws_step.specs.Sound.{AreAbove, IsTable}
use Rattle.oc_laws_step.proofs.Folds.{rows_found}

-- the found node is one of the list
pub found_one : (test : ℕ → Bool) (xs : List ℕ) (k : ℕ) → find test xs ≡ Some k → IsOneOf k xs
found_one test [] k e = absurd cc
found_one test (x ∷ xs) k e = by_test (test x) (λ rest. found_one test xs k rest) e where
  by_test : (b : Bool) → (find test xs ≡ Some k → IsOneOf k xs) → (if b then Some x else find test xs) ≡ Some k → (k ≡ x) ⊎ IsOneOf k xs
  by_test true rest f = inl cc
  by_test false rest f = inr (rest f)

-- each leased child has its lease
child_row : (t rows : List Cert) (y x : ℕ) → AllByRecursion (λ k. newest t k.subject ≡ Some k) rows → IsOneOf x (leased_children rows y) → (s : ℕ) × (leased_by t y x ≡ Some s)
child_row t [] y x all one = absurd one
child_row t (k ∷ ks) y x all one = by_test (is_lease_of y k) refl (λ later. child_row t ks y x all.1 later) one where
  by_test : (b : Bool) → is_lease_of y k ≡ b → (IsOneOf x (leased_children ks y) → (s : ℕ) × (leased_by t y x ≡ Some s))
      → IsOneOf x (map (λ (c : Cert). c.subject) (if b then k ∷ filter (is_lease_of y) ks else filter (is_lease_of y) ks)) → (s : ℕ) × (leased_by t y x ≡ Some s)
  by_test true e rest (inl same) = (k.seq, subst (λ (z : ℕ). leased_by t y z ≡ Some k.seq) (sym same) (ap (lease_number y) all.0 ∙ ap (λ b. if b then Some k.seq else None) e))
  by_test true e rest (inr later) = rest later
  by_test false e rest one = rest one

pub child_leased : (t : List Cert) (y x : ℕ) → IsTable t → IsOneOf x (leased_children t y) → (s : ℕ) × (leased_by t y x ≡ Some s)
child_leased t y x is one = child_row t t y x (rows_found t is) one

-- a leased child is above any number that all rows of the list are above
children_above : (x y a : ℕ) (rows : List Cert) → AreAbove x rows → IsOneOf a (leased_children rows y) → x < a
children_above x y a [] all one = absurd one
children_above x y a (k ∷ ks) all one = by_test (is_lease_of y k) (λ later. children_above x y a ks all.1 later) one where
  by_test : (b : Bool) → (IsOneOf a (leased_children ks y) → x < a) → IsOneOf a (map (λ (c : Cert). c.subject) (if b then k ∷ filter (is_lease_of y) ks else filter (is_lease_of y) ks)) → x < a
  by_test true rest (inl same) = subst (λ (z : ℕ). x < z) (sym same) all.0
  by_test true rest (inr later) = rest later
  by_test false rest one = rest one

-- the first child that passes a test is the least that passes
pub found_least : (test : ℕ → Bool) (t : List Cert) (y k a : ℕ) → IsTable t → find test (leased_children t y) ≡ Some k → IsOneOf a (leased_children t y) → test a ≡ true → k ≤ a
found_least test [] y k a is found one passes = absurd one
found_least test (j ∷ js) y k a is found one passes = by_test (is_lease_of y j) (λ f later. found_least test js y k a is.1 f later passes) found one where
  first : (b : Bool) → test j.subject ≡ b → (find test (leased_children js y) ≡ Some k → IsOneOf a (leased_children js y) → k ≤ a) → (if b then Some j.subject else find test (leased_children js y)) ≡ Some k
      → (a ≡ j.subject) ⊎ IsOneOf a (leased_children js y) → k ≤ a
  first true e rest f (inl same) = let here : j.subject ≡ k = cc in omega (arith, here, same)
  first true e rest f (inr later) = let here : j.subject ≡ k = cc in let above : j.subject < a = children_above j.subject y a js is.0 later in omega (arith, here, above)
  first false e rest f (inl same) = absurd (true≢false (sym passes ∙ (ap test same ∙ e)))
  first false e rest f (inr later) = rest f later

  by_test : (b : Bool) → (find test (leased_children js y) ≡ Some k → IsOneOf a (leased_children js y) → k ≤ a)
      → find test (map (λ (c : Cert). c.subject) (if b then j ∷ filter (is_lease_of y) js else filter (is_lease_of y) js)) ≡ Some k
      → IsOneOf a (map (λ (c : Cert). c.subject) (if b then j ∷ filter (is_lease_of y) js else filter (is_lease_of y) js)) → k ≤ a
  by_test true rest f one = first (test j.subject) refl rest f one
  by_test false rest f one = rest f one
