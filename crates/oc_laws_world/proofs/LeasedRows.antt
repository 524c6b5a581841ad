-- The nodes whose leases end: in an ascending table the row of each leased child names its parent, also while leases end.
use Rattle.std.proofs.Common.{◌≡◌, ℕ, Bool, true, false, not, ◌==◌, if◌then◌else◌, Option, Some, None, List, [], ◌∷◌, filter, refl, sym, subst, ◌∙◌, eqb-true}
use Rattle.std.specs.List.{AllByRecursion}
use Rattle.std.proofs.lemmas.Bool.{and_parts}
use Rattle.oc_base.specs.declared.cert.Cert.{Cert}
use Rattle.oc_model.specs.Leases.{is_over, ended}
use Rattle.oc_model.specs.Numbers.{at}
use Rattle.oc_model.specs.Table.{newest, put, is_lease_of, leased_children}
use Rattle.oc_laws_step.specs.Sound.{IsTable}
use Rattle.oc_laws_step.proofs.Folds.{rows_found}
use Rattle.oc_laws_step.proofs.Ranges.{all_filter, all_map}
use Rattle.oc_laws_step.proofs.Tables.{newest-put}

-- the row of x, if there is one, names this parent
abbrev pub IsRowOf : List Cert → ℕ → ℕ → Type 0
IsRowOf t y x = (k : Cert) → newest t x ≡ Some k → k.parent ≡ y

-- the row of x names the parent after a row that names it was put
pub row_put : (t : List Cert) (d : Cert) (y x : ℕ) → d.parent ≡ y → IsRowOf t y x → IsRowOf (put t d) y x
row_put t d y x here old k found = by_test (d.subject == x) (sym (newest-put t d x) ∙ found) where
  by_test : (b : Bool) → (if b then Some d else newest t x) ≡ Some k → k.parent ≡ y
  by_test true e = let same : d ≡ k = cc in subst (λ (c : Cert). c.parent ≡ y) same here
  by_test false e = old k e

-- the items of a list that pass a test have the property that the test gives
all_passed : {X : Type 0} (P Q : X → Type 0) (test : X → Bool) → ((x : X) → P x → test x ≡ true → Q x) → (xs : List X) → AllByRecursion P xs → AllByRecursion Q (filter test xs)
all_passed P Q test gives [] all = tt
all_passed P Q test gives (x ∷ xs) all = by_test (test x) (all_passed P Q test gives xs all.1) refl where
  by_test : (b : Bool) → AllByRecursion Q (filter test xs) → test x ≡ b → AllByRecursion Q (if b then x ∷ filter test xs else filter test xs)
  by_test true rest e = (gives x all.0 e, rest)
  by_test false rest e = rest

-- the row of each child of y whose lease has ended names y
pub rows_ended : (t : List Cert) (y : ℕ) (ends : List (Option ℕ)) (now : ℕ) → IsTable t → AllByRecursion (IsRowOf t y) (ended t y ends now)
rows_ended t y ends now is =
    all_filter (IsRowOf t y) (λ x. is_over (at ends x None) now) (leased_children t y)
    (all_map (IsRowOf t y) (λ k. k.subject) (filter (is_lease_of y) t)
    (all_passed (λ k. newest t k.subject ≡ Some k) (λ k. IsRowOf t y k.subject) (is_lease_of y) named t (rows_found t is))) where
      named : (k : Cert) → newest t k.subject ≡ Some k → is_lease_of y k ≡ true → IsRowOf t y k.subject
      named k found leased j there =
          let same : j ≡ k = cc in
          subst (λ (c : Cert). c.parent ≡ y) (sym same) (eqb-true k.parent y (and_parts (not k.dead) (k.parent == y) leased).1)
