-- The contract of std's `parse`, for digits.
use Rattle.std.proofs.Common.{◌≡◌, ℕ, ◌<◌, ◌^◌, true, List, length, Result, Ok, Err, rules}
use Rattle.std.specs.Char.{is_ascii_digit}
use Rattle.std.specs.List.{list_all}
use Rattle.std.specs.Option.{SomeIff}
use Rattle.std.specs.Result.{OkIff, result_ok}
use Rattle.std.specs.Str.{IsUtf8}
use Rattle.std.specs.Str.Parse.{ParsesUnsigned, digits_value}
use Rattle.std.proofs.lemmas.Fmt.{IsAscii-from_digits}
use Rattle.std.proofs.lemmas.Str.{IsUtf8-from_ascii}
use Rattle.std.proofs.lemmas.Str.Parse.{IsNumeralModel, numerals_by_value, parse_digits}

abbrev pub AreDigits : List ℕ → Type 0
AreDigits bytes = list_all is_ascii_digit bytes ≡ true

pub numerals : IsNumeralModel AreDigits (digits_value 10)
numerals = numerals_by_value AreDigits (search rules)

-- digits are text
pub IsUtf8-digits : (bytes : List ℕ) → AreDigits bytes → IsUtf8 bytes
IsUtf8-digits bytes digits = IsUtf8-from_ascii bytes (IsAscii-from_digits bytes (numerals.to bytes digits))

some_from_ok : {E : Type 0} (r : Result ℕ E) (P Q : Type 0) (v : ℕ) → P → OkIff r (P × Q) v → SomeIff (result_ok r) Q v
some_from_ok (Ok n) P Q v p h = (h.0.1, h.1)
some_from_ok (Err e) P Q v p h = λ q. h (p, q)

-- digits parse where their number fits
pub parsed_digits : {E : Type 0} (bytes : List ℕ) (r : Result ℕ E) → 0 < length bytes → AreDigits bytes → ParsesUnsigned 64 10 bytes r → SomeIff (result_ok r) (digits_value 10 bytes < 2 ^ 64) (digits_value 10 bytes)
parsed_digits bytes r some digits h = some_from_ok r _ _ _ some (parse_digits numerals 64 bytes r h digits)
