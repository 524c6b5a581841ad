-- No row has the code of an earlier one exactly where no two have one code.
use Rattle.std.proofs.Common.{◌≡◌, ◌≢◌, ℕ, suc, ◌==◌, Bool, true, not, List, [], ◌∷◌, refl, sym, ◌∙◌, arith, IsTrue, ◌↔◌}
use Rattle.std.specs.List.{All, list_all}
use Rattle.std.proofs.lemmas.Bool.{and_parts}
use Rattle.std.proofs.lemmas.List.Kept.{AllPairs-cons}
use Rattle.std.proofs.lemmas.List.Sums.{AllPass-from_list_all, list_all-from_AllPass}
use Rattle.oc_base.specs.declared.code_row.CodeRow.{CodeRow}
use Rattle.oc_base.specs.Codes.{AreDistinct, are_distinct}

-- a test that two numbers differ
not_equal : (a b : ℕ) → not (a == b) ≡ true → b ≢ a
not_equal a b h = λ same. grind (arith, h, same)

-- two numbers that differ pass the test
are_different : (a b : ℕ) → b ≢ a → not (a == b) ≡ true
are_different a b h = grind (arith, h)

-- where all later ones have another code
all_other : (row : CodeRow) (rows : List CodeRow) → list_all (λ later. not (later.code == row.code)) rows ≡ true → All (λ later. row.code ≢ later.code) rows
all_other row rows h = λ k d lt. not_equal _ _ (AllPass-from_list_all _ rows h k d lt)

-- the test says so
pub distinct_by_test : (rows : List CodeRow) → are_distinct rows ≡ true → AreDistinct rows
distinct_by_test [] h = λ i j d lt within. absurd (omega arith)
distinct_by_test (row ∷ rows) h =
    let b = and_parts _ _ h in
    AllPairs-cons (λ a b. a.code ≢ b.code) row rows (all_other row rows b.0) (distinct_by_test rows b.1)

-- distinct rows pass the test
pub test_by_distinct : (rows : List CodeRow) → AreDistinct rows → are_distinct rows ≡ true
test_by_distinct [] h = refl
test_by_distinct (row ∷ rows) h =
    let others : list_all (λ later. not (later.code == row.code)) rows ≡ true =
    list_all-from_AllPass _ rows (λ k d lt. are_different _ _ (h 0 (suc k) d (omega arith) (omega (arith, lt)))) in
    let rest : are_distinct rows ≡ true = test_by_distinct rows (λ i j d lt within. h (suc i) (suc j) d (omega (arith, lt)) (omega (arith, within))) in
    rw (others, rest) refl

-- both ways at once, for an answer of the test
pub same_as_test : (answer : Bool) (rows : List CodeRow) → answer ≡ are_distinct rows → IsTrue answer ↔ AreDistinct rows
same_as_test answer rows e = (λ h. distinct_by_test rows (sym e ∙ h), λ h. e ∙ test_by_distinct rows h)
