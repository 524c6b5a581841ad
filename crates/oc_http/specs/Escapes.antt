-- Escapes in paths (RFC 3986, section 2.1).
use Rattle.std.specs.Prelude.{ℕ, ◌+◌, ◌*◌, ◌<◌, Bool, true, false, not, ◌&&◌, ◌||◌, ◌==◌, if◌then◌else◌, Option, Some, None, List, [], ◌∷◌, All}
use Rattle.std.specs.Char.{digit_value, is_ascii_alphanumeric, is_digit}
use Rattle.std.specs.List.{flat_map}
use Rattle.std.specs.Str.{byte}
use Rattle.percent_encoding.specs.Percent.{percent_decode, percent_encode_byte}

-- a byte that no escape may give: NUL, and the slash, which separates segments
abbrev pub is_barred : ℕ → Bool
is_barred b = b == 0 || b == byte "/"

-- bytes that begin with two hexadecimal digits, of a byte that may be escaped
abbrev pub are_digits_first : List ℕ → Bool
are_digits_first [] = false
are_digits_first (high ∷ []) = false
are_digits_first (high ∷ low ∷ rest) =
    is_digit high 16 && is_digit low 16 && not (is_barred (16 * digit_value high + digit_value low))

-- a path in which each `%` has two such digits after it
abbrev pub is_escaped_well : List ℕ → Bool
is_escaped_well [] = true
is_escaped_well (b ∷ rest) = (not (b == byte "%") || are_digits_first rest) && is_escaped_well rest

-- the decoded bytes of a path: `%` and two hexadecimal digits are a byte, every other byte is itself
abbrev pub decoded : List ℕ → Option (List ℕ)
decoded path = if is_escaped_well path then Some (percent_decode path) else None

-- a letter, a digit, or one of `/`, `-`, `.`, `_` and `~`
abbrev pub is_plain : ℕ → Bool
is_plain b = is_ascii_alphanumeric b || b == byte "/" || b == byte "-" || b == byte "." || b == byte "_" || b == byte "~"

-- the byte, or `%` and its two hexadecimal digits in capitals
abbrev pub byte_text : ℕ → List ℕ
byte_text b = if is_plain b then b ∷ [] else percent_encode_byte b

-- the text of a path, or of a segment of one
abbrev pub path_text : List ℕ → List ℕ
path_text path = flat_map byte_text path

-- bytes other than NUL
abbrev pub AreBytes : List ℕ → Type 0
AreBytes path = All (λ b. (0 < b) × (b < 256)) path
