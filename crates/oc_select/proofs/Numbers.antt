-- A number of 19 digits fits 64 bits.
use Rattle.std.proofs.Common.{◌≡◌, ℕ, ◌<◌, ◌≤◌, ◌^◌, Bool, true, false, cond, List, length, Option, Some, None, refl, sym, ap, ◌∙◌, arith}
use Rattle.std.specs.Prelude.{◌&&◌, SomeIff}
use Rattle.std.specs.Char.{is_ascii_digit}
use Rattle.std.specs.List.{list_all}
use Rattle.std.specs.Str.Parse.{digits_value}
use Rattle.std.proofs.lemmas.Bool.{le-leb}
use Rattle.std.proofs.lemmas.Str.Parse.{digits_value_short}
use Rattle.oc_base.proofs.Numerals.{numerals}
use Rattle.oc_select.specs.Ranges.{is_number, number_in}

digits_fit : (text : List ℕ) → list_all is_ascii_digit text ≡ true → length text ≤ 19 → digits_value 10 text < 2 ^ 64
digits_fit text all few =
    let small : digits_value 10 text < 10 ^ 19 = digits_value_short numerals text 19 all few in
    omega (arith, small)

three : (a b c : Bool) → a ≡ true → b ≡ true → c ≡ true → (a && b && c) ≡ true
three true true true p q r = refl
three false b c p q r = cc
three true false c p q r = cc
three true true false p q r = cc

some_is : (r : Option ℕ) (P : Type 0) (v : ℕ) → P → SomeIff r P v → r ≡ Some v
some_is None P v p h = absurd (h p)
some_is (Some n) P v p h = ap (λ (k : ℕ). Some k) h.1

-- the value of 1 to 19 digits is their number
pub number_is : (text : List ℕ) (r : Option ℕ) → 0 < length text → length text ≤ 19 → list_all is_ascii_digit text ≡ true → SomeIff r (digits_value 10 text < 2 ^ 64) (digits_value 10 text)
    → r ≡ number_in text
number_is text r some few digits h =
    let spelled : is_number text ≡ true = three _ _ (list_all is_ascii_digit text) (le-leb 1 (length text) some) (le-leb (length text) 19 few) digits in
    some_is r (digits_value 10 text < 2 ^ 64) (digits_value 10 text) (digits_fit text digits few) h
    ∙ sym (ap (λ (t : Bool). cond t (Some (digits_value 10 text)) None) spelled)
