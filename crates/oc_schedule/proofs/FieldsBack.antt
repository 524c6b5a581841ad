-- Numbers, names and bytes are written as words, and read back.
use Rattle.std.proofs.Common.{◌≡◌, ℕ, zero, suc, ◌+◌, ◌*◌, ◌^◌, ◌<◌, ◌≤◌, Bool, true, false, cond, ltb, not, ◌&&◌, ◌||◌, ◌==◌, nat_lt, nat_le, Option, Some, None, Ok, Err, List, [], ◌∷◌, length, refl, ap, ◌∙◌, arith, codes, decimal, ◌⊎◌, inl, inr}
use Rattle.std.specs.Prelude.{slice_index}
use Rattle.std.specs.Char.{is_ascii_digit}
use Rattle.std.specs.List.{list_all, position, position_or_len}
use Rattle.std.specs.Str.{bytes_eq, byte}
use Rattle.std.specs.Str.Parse.{digits_value}
use Rattle.std.proofs.lemmas.Bool.{and_parts}
use Rattle.std.proofs.lemmas.Bool.Decides.{nat_tests}
use Rattle.std.proofs.lemmas.Fmt.{decimal_digit, decimal_nonempty, decimal_is_IsNumeral, digits_decimal, first_decimal}
use Rattle.std.proofs.lemmas.List.Sums.{list_all-from_AllPass}
use Rattle.hex.proofs.HexLemmas.{decode_of-encode_lower, decode_of-ok}
use Rattle.hex.specs.Hex.{decode_of, encode_lower, is_hex_digit, IsBytes}
use Rattle.oc_base.specs.Names.{IsGroupName, fault_at, is_name_byte, is_path, name_or}
use Rattle.oc_base.specs.Steps.{with_fault}
use Rattle.oc_base.specs.Words.{is_number, number_in}
use Rattle.oc_base.specs.declared.group_name.NameFault.TheVariants.{Length}
use Rattle.oc_base.specs.declared.why.Why.TheVariants as causes
use Rattle.oc_base.proofs.Numerals.{numerals}
use Rattle.oc_schedule.proofs.LineBack.{is_word}
use Rattle.oc_schedule.specs.Fields.{bytes_in, bytes_text, group_in}

-- bytes that all pass a test all pass a weaker one
weaker : (p q : ℕ → Bool) → ((b : ℕ) → p b ≡ true → q b ≡ true) → (bs : List ℕ) → list_all p bs ≡ true → list_all q bs ≡ true
weaker p q h [] all = refl
weaker p q h (b ∷ bs) all =
    let parts = and_parts (p b) (list_all p bs) all in
    ap (λ r. r && list_all q bs) (h b parts.0) ∙ weaker p q h bs parts.1

-- one or more bytes greater than a space are a word
word_of : (w : List ℕ) → 0 < length w → list_all (λ b. nat_lt 32 b) w ≡ true → is_word w ≡ true
word_of w some all =
    let there : nat_lt 0 (length w) ≡ true = grind (arith, nat_tests) in
    ap (λ r. r && list_all (λ b. nat_lt 32 b) w) there ∙ all

and_false : (b : Bool) → (b && false) ≡ false
and_false true = refl
and_false false = refl

-- Numbers

digit_above : (b : ℕ) → is_ascii_digit b ≡ true → nat_lt 32 b ≡ true
digit_above b h = grind (arith, nat_tests)

pub decimal_word : (n : ℕ) → n < 2 ^ 64 → is_word (decimal n) ≡ true
decimal_word n h = word_of (decimal n) (decimal_nonempty n h) (weaker is_ascii_digit (λ b. nat_lt 32 b) digit_above (decimal n) (digits_decimal numerals n h))

-- a number begins with a zero only where it has one digit
no_zero_first : (n : ℕ) → n < 2 ^ 64 → (nat_lt 1 (length (decimal n)) && slice_index (decimal n) 0 == byte "0") ≡ false
no_zero_first zero h = ap (λ field. nat_lt 1 (length field) && slice_index field 0 == byte "0") (decimal_digit zero (omega arith))
no_zero_first (suc n) h =
    let first = first_decimal (suc n) (omega arith) h in
    let other : (slice_index (decimal (suc n)) 0 == byte "0") ≡ false = grind (arith, nat_tests) in
    ap (λ b. nat_lt 1 (length (decimal (suc n))) && b) other ∙ and_false (nat_lt 1 (length (decimal (suc n))))

pub spelled : (n : ℕ) → n < 2 ^ 64 → is_number (decimal n) ≡ true
spelled n h =
    let some = decimal_nonempty n h in
    let there : not (length (decimal n) == 0) ≡ true = grind (arith, nat_tests) in
    ap (λ b. b && not (nat_lt 1 (length (decimal n)) && slice_index (decimal n) 0 == byte "0") && list_all is_ascii_digit (decimal n)) there
    ∙ ap (λ b. true && not b && list_all is_ascii_digit (decimal n)) (no_zero_first n h) ∙ digits_decimal numerals n h

pub number_back : (least most n : ℕ) → n < 2 ^ 64 → least ≤ n → n ≤ most → number_in least most (decimal n) ≡ Ok n
number_back least most n h low high =
    let within : (nat_le least n && nat_le n most) ≡ true = grind (arith, nat_tests) in
    let value = (decimal_is_IsNumeral n h).1 in
    ap (λ b. cond (not b) (Err causes.Number) (cond (nat_le least (digits_value 10 (decimal n)) && nat_le (digits_value 10 (decimal n)) most) (Ok (digits_value 10 (decimal n))) (Err causes.Range))) (spelled n h)
    ∙ ap (λ v. cond (nat_le least v && nat_le v most) (Ok v) (Err causes.Range)) value
    ∙ ap (λ b. cond b (Ok n) (Err causes.Range)) within

-- Names

true_or_false : (b : Bool) → (b ≡ true) ⊎ (b ≡ false)
true_or_false true = inl refl
true_or_false false = inr refl

-- no element passes where the first that passes is at the end
none_passes : (p : ℕ → Bool) (xs : List ℕ) → length xs ≤ position_or_len p xs → list_all (λ x. not (p x)) xs ≡ true
none_passes p [] h = refl
none_passes p (x ∷ xs) h = elim (true_or_false (p x)) [
  | inl is ↦ let short : position_or_len p (x ∷ xs) ≡ 0 = rw is refl in absurd (omega (arith, h, short))
  | inr is ↦
      let deep : position_or_len p (x ∷ xs) ≡ position_or_len p xs + 1 = rw is (grind arith) in
      ap (λ b. not b && list_all (λ x. not (p x)) xs) is ∙ none_passes p xs (omega (arith, h, deep))
]

none_from_cond : (b : Bool) (n : ℕ) → cond b (Some n) None ≡ None → b ≡ false
none_from_cond true n h = absurd (cc h)
none_from_cond false n h = refl

-- a name without a fault in its length or its bytes
no_fault : (long : Bool) (at : Option ℕ) (formed : Bool) → cond long (Some Length) (fault_at at formed) ≡ None → (long ≡ false) × (at ≡ None)
no_fault true at formed h = absurd (cc h)
no_fault false (Some i) formed h = absurd (cc h)
no_fault false None formed h = (refl, refl)

name_byte_above : (b : ℕ) → not (not (is_name_byte b)) ≡ true → nat_lt 32 b ≡ true
name_byte_above b h = grind (arith, nat_tests)

or_parts : (a b : Bool) → (a || b) ≡ false → (a ≡ false) × (b ≡ false)
or_parts true b h = absurd (cc h)
or_parts false b h = (refl, h)

pub name_word : (g : List ℕ) → IsGroupName g → is_word g ≡ true
name_word g h =
    let parts = no_fault (nat_lt (length g) 2 || nat_lt 200 (length g)) (position (λ b. not (is_name_byte b)) g) (is_path g) h in
    let long = (or_parts (nat_lt (length g) 2) (nat_lt 200 (length g)) parts.0).0 in
    let some : 0 < length g = grind (arith, nat_tests) in
    let past = none_from_cond (ltb (position_or_len (λ b. not (is_name_byte b)) g) (length g)) (position_or_len (λ b. not (is_name_byte b)) g) parts.1 in
    let none = none_passes (λ b. not (is_name_byte b)) g (grind (arith, nat_tests)) in
    word_of g some (weaker (λ b. not (not (is_name_byte b))) (λ b. nat_lt 32 b) name_byte_above g none)

pub group_back : (g : List ℕ) → IsGroupName g → group_in g ≡ Ok g
group_back g h = ap (λ fault. with_fault causes.Group (name_or g fault)) h

-- Bytes in hexadecimal

hex_above : (b : ℕ) → is_hex_digit b ≡ true → nat_lt 32 b ≡ true
hex_above b h = grind (arith, nat_tests)

-- hexadecimal digits, two for each byte
hex_digits : (bs : List ℕ) → IsBytes bs → (list_all is_hex_digit (encode_lower bs) ≡ true) × (length (encode_lower bs) ≡ 2 * length bs)
hex_digits bs h =
    let back = decode_of-ok (encode_lower bs) bs (decode_of-encode_lower bs h) in
    (list_all-from_AllPass is_hex_digit (encode_lower bs) back.1, back.2)

pub bytes_word : (bs : List ℕ) → IsBytes bs → is_word (bytes_text bs) ≡ true
bytes_word [] h = refl
bytes_word (b ∷ bs) h =
    let digits = hex_digits (b ∷ bs) h in
    word_of (encode_lower (b ∷ bs)) (omega (arith, digits.1)) (weaker is_hex_digit (λ c. nat_lt 32 c) hex_above (encode_lower (b ∷ bs)) digits.0)

-- two digits are not the dash
no_dash : (text : List ℕ) → 1 < length text → bytes_eq text (codes "-") ≡ false
no_dash [] h = absurd (omega (arith, h))
no_dash (c ∷ []) h = absurd (omega (arith, h))
no_dash (c ∷ d ∷ more) h = and_false (c == 45)

pub bytes_back : (bs : List ℕ) → IsBytes bs → bytes_in (bytes_text bs) ≡ Ok bs
bytes_back [] h = refl
bytes_back (b ∷ bs) h =
    let text = encode_lower (b ∷ bs) in
    let long = (hex_digits (b ∷ bs) h).1 in
    let some : (length text == 0) ≡ false = grind (arith, nat_tests) in
    ap (λ dash. cond dash (Ok []) (cond (length text == 0) (Err causes.Hex) (with_fault causes.Hex (decode_of text)))) (no_dash text (omega (arith, long)))
    ∙ ap (λ empty. cond empty (Err causes.Hex) (with_fault causes.Hex (decode_of text))) some
    ∙ ap (with_fault causes.Hex) (decode_of-encode_lower (b ∷ bs) h)
