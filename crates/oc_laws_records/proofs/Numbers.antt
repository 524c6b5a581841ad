-- Numbers are printed as they were read, and small ones are short.
use Rattle.std.proofs.Common.{◌≡◌, ℕ, ◌<◌, ◌≤◌, ◌^◌, Bool, true, false, not, ◌&&◌, ◌==◌, nat_lt, nat_le, Ok, List, length, refl, ap, sym, ◌∙◌, arith, decimal}
use Rattle.std.specs.Prelude.{slice_index}
use Rattle.std.specs.Char.{is_ascii_digit}
use Rattle.std.specs.List.{list_all}
use Rattle.std.specs.Str.Parse.{digits_value}
use Rattle.std.proofs.lemmas.Bool.{and_parts, eqb-false}
use Rattle.std.proofs.lemmas.Bool.Decides.{nat_tests}
use Rattle.std.proofs.lemmas.Fmt.{decimal-digits_value, decimal_nonempty, length-decimal-le}
use Rattle.oc_base.proofs.Numerals.{numerals}
use Rattle.oc_base.specs.Words.{is_number, number_in}
use Rattle.oc_base.specs.declared.why.Why.TheVariants as causes
use Rattle.oc_schedule.proofs.Steps.{behind_guard, within_guard}

not_false : (b : Bool) → not b ≡ false → b ≡ true
not_false true h = refl
not_false false h = absurd (cc h)

not_true : (b : Bool) → not b ≡ true → b ≡ false
not_true true h = absurd (cc h)
not_true false h = refl

-- a number that begins with a zero is one digit
no_zero_before : (long nought : Bool) → not (long && nought) ≡ true → nought ≡ true → long ≡ false
no_zero_before false nought h z = refl
no_zero_before true true h z = absurd (cc h)
no_zero_before true false h z = absurd (cc z)

pub number_back : (least most : ℕ) (field : List ℕ) (n : ℕ) → most < 2 ^ 64 → number_in least most field ≡ Ok n → decimal n ≡ field
number_back least most field n small h =
    let spelled = behind_guard (not (is_number field)) causes.Number _ n h in
    let within = within_guard (nat_le least (digits_value 10 field) && nat_le (digits_value 10 field) most) causes.Range _ n spelled.1 in
    let value : digits_value 10 field ≡ n = cc within.1 in
    let most_is = (and_parts (nat_le least (digits_value 10 field)) (nat_le (digits_value 10 field) most) within.0).1 in
    let fits : digits_value 10 field < 2 ^ 64 = grind (arith, nat_tests) in
    let number = not_false (is_number field) spelled.0 in
    let parts = and_parts (not (length field == 0) && not (nat_lt 1 (length field) && slice_index field 0 == 48)) (list_all is_ascii_digit field) number in
    let fronts = and_parts (not (length field == 0)) (not (nat_lt 1 (length field) && slice_index field 0 == 48)) parts.0 in
    let there = eqb-false (length field) 0 (not_true (length field == 0) fronts.0) in
    let some : 0 < length field = omega (arith, there) in
    let alone : slice_index field 0 ≡ 48 → length field ≡ 1 = λ e.
    let zero : (slice_index field 0 == 48) ≡ true = grind (arith, nat_tests) in
    let short : nat_lt 1 (length field) ≡ false = no_zero_before (nat_lt 1 (length field)) (slice_index field 0 == 48) fronts.1 zero in
    grind (arith, nat_tests) in
    ap decimal (sym value) ∙ decimal-digits_value numerals field parts.1 some alone fits

pub decimal_some : (n : ℕ) → n < 2 ^ 64 → 0 < length (decimal n)
decimal_some = decimal_nonempty

-- an id of a node has at most four digits
pub node_short : (n : ℕ) → n ≤ 1024 → length (decimal n) ≤ 4
node_short n few = length-decimal-le 4 n (omega arith) (omega (arith, few)) (omega (arith, few))

-- more messages than a merge of records comes to
abbrev pub many : ℕ
many = 10 ^ 12

pub many_short : (n : ℕ) → n < many → length (decimal n) ≤ 12
many_short n few = length-decimal-le 12 n (omega arith) (omega (arith, few)) (omega (arith, few))
