-- The ids of a network, walked from the first on: those for which a test holds.
use Rattle.std.proofs.Common.{◌≡◌, ℕ, suc, ◌+◌, ◌-◌, ◌<◌, ◌≤◌, Bool, true, false, List, [], ◌∷◌, ◌++◌, filter, refl, ap, sym, ◌∙◌, append_assoc, arith}
use Rattle.std.proofs.lemmas.List.{append-nil}
use Rattle.oc_routes.specs.Sights.{ids_from}

-- the test holds for the next id, so it is put at the end
pub id_taken : (test : ℕ → Bool) (k nodes : ℕ) (out all : List ℕ) → k < nodes → test (k + 1) ≡ true → out ++ filter test (ids_from (k + 1) (nodes - k)) ≡ all
    → (out ++ (k + 1) ∷ []) ++ filter test (ids_from (k + 1 + 1) (nodes - (k + 1))) ≡ all
id_taken test k nodes out all within holds so_far =
    let more : nodes - k ≡ suc (nodes - (k + 1)) = omega (arith, within) in
    let next : filter test (ids_from (k + 1) (nodes - k)) ≡ (k + 1) ∷ filter test (ids_from (k + 1 + 1) (nodes - (k + 1))) = rw (more, holds) refl in
    append_assoc out ((k + 1) ∷ []) (filter test (ids_from (k + 1 + 1) (nodes - (k + 1)))) ∙ (ap (λ (xs : List ℕ). out ++ xs) (sym next) ∙ so_far)

-- the test fails for the next id, so it is passed over
pub id_passed : (test : ℕ → Bool) (k nodes : ℕ) (out all : List ℕ) → k < nodes → test (k + 1) ≡ false → out ++ filter test (ids_from (k + 1) (nodes - k)) ≡ all
    → out ++ filter test (ids_from (k + 1 + 1) (nodes - (k + 1))) ≡ all
id_passed test k nodes out all within fails so_far =
    let more : nodes - k ≡ suc (nodes - (k + 1)) = omega (arith, within) in
    let next : filter test (ids_from (k + 1) (nodes - k)) ≡ filter test (ids_from (k + 1 + 1) (nodes - (k + 1))) = rw (more, fails) refl in
    ap (λ (xs : List ℕ). out ++ xs) (sym next) ∙ so_far

-- all ids were looked at
pub ids_found : (test : ℕ → Bool) (k nodes : ℕ) (out all : List ℕ) → nodes ≤ k → out ++ filter test (ids_from (k + 1) (nodes - k)) ≡ all → out ≡ all
ids_found test k nodes out all past so_far =
    let none : nodes - k ≡ 0 = omega (arith, past) in
    let next : filter test (ids_from (k + 1) (nodes - k)) ≡ [] = rw none refl in
    sym (append-nil out) ∙ (ap (λ (xs : List ℕ). out ++ xs) (sym next) ∙ so_far)
