-- The row of a code, and the kind that is in it.
use Rattle.std.proofs.Common.{◌≡◌, ℕ, zero, suc, ◌<◌, ◌≤◌, ◌==◌, Bool, true, false, cond, nat_lt, Some, None, Err, List, get_or, refl, sym, subst, arith}
use Rattle.std.specs.List.{position_or_len}
use Rattle.std.proofs.lemmas.Bool.{eqb-true, eqb-false, ne_eqb, ltb-false}
use Rattle.std.proofs.lemmas.List.Sums.{fails_before_first}
use Rattle.std.proofs.lemmas.List.Quantifiers.{position-Some}
use Rattle.oc_base.specs.Codes.{row_of}
use Rattle.oc_base.specs.declared.code_row.CodeRow.{CodeRow}
use Rattle.oc_wire.specs.declared.codes.TheConstants.{CODES}
use Rattle.oc_wire.specs.declared.fault.WireFault.TheVariants.{Kind}
use Rattle.oc_wire.specs.MessageFaults.{of_field}
use Rattle.oc_wire.specs.MessageReading.{fields_at, body_at}

-- a row after the last
abbrev no_row : CodeRow
no_row = record { code = 0; least = 0 }

code_in_row : (code row : ℕ) → row_of code CODES ≡ Some row → (get_or CODES row no_row).code ≡ code
code_in_row code row h = eqb-true (get_or CODES row no_row).code code (position-Some (λ (r : CodeRow). r.code == code) CODES row no_row h).1

-- the body of the kind with this code is that of its row
pub body_in_row : (code row nodes : ℕ) (bytes : List ℕ) (at : ℕ) → row_of code CODES ≡ Some row → body_at code nodes bytes at ≡ of_field (fields_at row nodes bytes at)
unfolding body_at fields_at
body_in_row code zero nodes bytes at h = subst (λ (n : ℕ). body_at n nodes bytes at ≡ of_field (fields_at 0 nodes bytes at)) (code_in_row code 0 h) refl
body_in_row code (suc zero) nodes bytes at h = subst (λ (n : ℕ). body_at n nodes bytes at ≡ of_field (fields_at 1 nodes bytes at)) (code_in_row code 1 h) refl
body_in_row code (suc (suc zero)) nodes bytes at h = subst (λ (n : ℕ). body_at n nodes bytes at ≡ of_field (fields_at 2 nodes bytes at)) (code_in_row code 2 h) refl
body_in_row code (suc (suc (suc zero))) nodes bytes at h = subst (λ (n : ℕ). body_at n nodes bytes at ≡ of_field (fields_at 3 nodes bytes at)) (code_in_row code 3 h) refl
body_in_row code (suc (suc (suc (suc zero)))) nodes bytes at h = subst (λ (n : ℕ). body_at n nodes bytes at ≡ of_field (fields_at 4 nodes bytes at)) (code_in_row code 4 h) refl
body_in_row code (suc (suc (suc (suc (suc zero))))) nodes bytes at h = subst (λ (n : ℕ). body_at n nodes bytes at ≡ of_field (fields_at 5 nodes bytes at)) (code_in_row code 5 h) refl
body_in_row code (suc (suc (suc (suc (suc (suc zero)))))) nodes bytes at h = subst (λ (n : ℕ). body_at n nodes bytes at ≡ of_field (fields_at 6 nodes bytes at)) (code_in_row code 6 h) refl
body_in_row code (suc (suc (suc (suc (suc (suc (suc zero))))))) nodes bytes at h = subst (λ (n : ℕ). body_at n nodes bytes at ≡ of_field (fields_at 7 nodes bytes at)) (code_in_row code 7 h) refl
body_in_row code (suc (suc (suc (suc (suc (suc (suc (suc zero)))))))) nodes bytes at h = subst (λ (n : ℕ). body_at n nodes bytes at ≡ of_field (fields_at 8 nodes bytes at)) (code_in_row code 8 h) refl
body_in_row code (suc (suc (suc (suc (suc (suc (suc (suc (suc zero))))))))) nodes bytes at h = subst (λ (n : ℕ). body_at n nodes bytes at ≡ of_field (fields_at 9 nodes bytes at)) (code_in_row code 9 h) refl
body_in_row code (suc (suc (suc (suc (suc (suc (suc (suc (suc (suc zero)))))))))) nodes bytes at h = subst (λ (n : ℕ). body_at n nodes bytes at ≡ of_field (fields_at 10 nodes bytes at)) (code_in_row code 10 h) refl
body_in_row code (suc (suc (suc (suc (suc (suc (suc (suc (suc (suc (suc row))))))))))) nodes bytes at h = let behind : ℕ = (suc (suc (suc (suc (suc (suc (suc (suc (suc (suc (suc row))))))))))) in absurd (omega (arith, (position-Some (λ (r : CodeRow). r.code == code) CODES behind no_row h).0))

-- where no row has the code, all rows are before the first with it
all_before : (n : ℕ) → cond (nat_lt n 11) (Some n) None ≡ None → 11 ≤ n
all_before n none = by_test (nat_lt n 11) refl none where
  by_test : (t : Bool) → nat_lt n 11 ≡ t → cond t (Some n) None ≡ None → 11 ≤ n
  by_test true is e = cc
  by_test false is e = ltb-false n 11 is

-- a code that is in no row is not that of any row
other_code : (code k : ℕ) → row_of code CODES ≡ None → k < 11 → (code == (get_or CODES k no_row).code) ≡ false
other_code code k none within =
    let behind = all_before (position_or_len (λ (r : CodeRow). r.code == code) CODES) none in
    let fails = fails_before_first (λ (r : CodeRow). r.code == code) CODES k no_row (omega (arith, behind, within)) in
    ne_eqb code (get_or CODES k no_row).code (λ same. eqb-false (get_or CODES k no_row).code code fails (sym same))

-- no kind has a code that is in no row
pub body_in_no_row : (code nodes : ℕ) (bytes : List ℕ) (at : ℕ) → row_of code CODES ≡ None → body_at code nodes bytes at ≡ Err (Kind code)
unfolding body_at
body_in_no_row code nodes bytes at none =
    let not_1 : (code == 1) ≡ false = other_code code 0 none (omega arith) in
    let not_2 : (code == 2) ≡ false = other_code code 1 none (omega arith) in
    let not_3 : (code == 3) ≡ false = other_code code 2 none (omega arith) in
    let not_4 : (code == 4) ≡ false = other_code code 3 none (omega arith) in
    let not_5 : (code == 5) ≡ false = other_code code 4 none (omega arith) in
    let not_11 : (code == 11) ≡ false = other_code code 5 none (omega arith) in
    let not_7 : (code == 7) ≡ false = other_code code 6 none (omega arith) in
    let not_8 : (code == 8) ≡ false = other_code code 7 none (omega arith) in
    let not_12 : (code == 12) ≡ false = other_code code 8 none (omega arith) in
    let not_13 : (code == 13) ≡ false = other_code code 9 none (omega arith) in
    let not_14 : (code == 14) ≡ false = other_code code 10 none (omega arith) in
    rw (not_1, not_2, not_3, not_4, not_5, not_11, not_7, not_8, not_12, not_13, not_14) refl
