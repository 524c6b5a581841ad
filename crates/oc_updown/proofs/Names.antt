-- A group's name is a text.
use Rattle.std.proofs.Common.{◌≡◌, ℕ, ◌<◌, ◌≤◌, inl, inr, Bool, true, not, ◌||◌, Option, Some, None, List, length, get_or, refl, arith}
use Rattle.std.specs.Prelude.{IsUtf8, slice_index, nat_lt}
use Rattle.std.specs.List.{position, position_or_len}
use Rattle.std.proofs.lemmas.Bool.{cases_Bool, cases_lt, lt-ltb, not-false}
use Rattle.std.proofs.lemmas.Bool.Decides.{nat_tests}
use Rattle.std.proofs.lemmas.List.Sums.{fails_before_first}
use Rattle.std.proofs.lemmas.List.{get_or_past}
use Rattle.std.proofs.lemmas.Str.{IsUtf8-from_ascii}
use Rattle.oc_base.specs.declared.limits.TheConstants.{MIN_NAME_BYTES, MAX_NAME_BYTES}
use Rattle.oc_base.specs.Names.{is_name_byte, is_path, fault_at, IsGroupName}

-- a byte of a name is ASCII
name_byte_ascii : (b : ℕ) → is_name_byte b ≡ true → b < 128
name_byte_ascii b h = grind (arith, nat_tests)

-- without an item that passes the test, the position found is past the list
none_first : {X : Type 0} (p : X → Bool) (xs : List X) → position p xs ≡ None → length xs ≤ position_or_len p xs
none_first p xs none = elim (cases_lt (position_or_len p xs) (length xs)) [
  | inl less ↦ let e = rw (lt-ltb _ _ less) at none in cc e
  | inr past ↦ past
]

-- each byte of a name is one that a name may have
named : (bytes : List ℕ) → IsGroupName bytes → position (λ b. not (is_name_byte b)) bytes ≡ None
named bytes name = first_of (position (λ b. not (is_name_byte b)) bytes) (is_path bytes) (within bytes name)
  where
    first_of : (o : Option ℕ) (formed : Bool) → fault_at o formed ≡ None → o ≡ None
    first_of None formed e = refl
    first_of (Some i) formed e = cc

    within : (bytes : List ℕ) → IsGroupName bytes → fault_at (position (λ b. not (is_name_byte b)) bytes) (is_path bytes) ≡ None
    within bytes name = elim (cases_Bool (nat_lt (length bytes) MIN_NAME_BYTES || nat_lt MAX_NAME_BYTES (length bytes))) [
      | inl bad ↦ let e = rw bad at name in cc e
      | inr good ↦ rw good at name
    ]

-- a group's name is ASCII
ascii : (bytes : List ℕ) → IsGroupName bytes → (i : ℕ) → slice_index bytes i < 128
ascii bytes name i =
    let past = none_first (λ b. not (is_name_byte b)) bytes (named bytes name) in
    elim (cases_lt i (length bytes)) [
      | inl inside ↦ name_byte_ascii (get_or bytes i 0) (not-false _ (fails_before_first (λ b. not (is_name_byte b)) bytes i 0 (omega (arith, past, inside))))
      | inr beyond ↦ omega (arith, get_or_past bytes i 0 beyond)
    ]

pub IsUtf8-name : (bytes : List ℕ) → IsGroupName bytes → IsUtf8 bytes
IsUtf8-name bytes name = IsUtf8-from_ascii bytes (ascii bytes name)
