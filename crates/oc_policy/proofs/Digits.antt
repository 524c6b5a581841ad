-- The digits of a MAC.
use Rattle.std.proofs.Common.{◌≡◌, ℕ, zero, suc, ◌/◌, ◌%◌, ◌<◌, List, [], ◌∷◌, length, slice_index, refl, ap, ◌∙◌, arith, true}
use Rattle.std.specs.Int.{w32, byte_at, bytes_high_first, to_be_bytes}
use Rattle.std.specs.List.{All, AllPass}
use Rattle.std.proofs.lemmas.List.Elements.{All-append, All-cons, All-head, All-nil, All-tail}
use Rattle.std.proofs.lemmas.List.Sums.{AllPass-from_list_all}
use Rattle.hex.proofs.HexLemmas.{decode_of-encode_lower, decode_of-same, length-encode_with}
use Rattle.hex.specs.Hex.{IsBytes, decode_of, encode_lower, encode_with, lower_digits}
use Rattle.sha2.proofs.Facts256.{length-sha256}
use Rattle.sha2.specs.Sha256.{digest_bytes, sha256}
use Rattle.oc_policy.specs.Hmac.{hmac}
use Rattle.oc_policy.specs.Keys.{AreLowerDigits, is_lower_digit, mac_digits}

-- two digits for each of 32 bytes
pub length-mac_digits : (key body : List ℕ) → length (mac_digits key body) ≡ 64
unfolding hmac
length-mac_digits key body =
    let twice = length-encode_with lower_digits (hmac key body) in
    let bytes : length (hmac key body) ≡ 32 = length-sha256 _ in
    omega (arith, twice, bytes)

abbrev is_byte : ℕ → Type 0
is_byte x = x < 256

abbrev is_digit : ℕ → Type 0
is_digit x = is_lower_digit x ≡ true

word_bytes : (n : ℕ) → All is_byte (to_be_bytes w32 n)
word_bytes n =
    All-cons is_byte (byte_at 3 n) (bytes_high_first 3 n) (omega arith)
    (All-cons is_byte (byte_at 2 n) (bytes_high_first 2 n) (omega arith)
    (All-cons is_byte (byte_at 1 n) (bytes_high_first 1 n) (omega arith)
    (All-cons is_byte (byte_at 0 n) [] (omega arith) (All-nil is_byte))))

digests_are_bytes : (h : List ℕ) (n : ℕ) → All is_byte (digest_bytes h n)
unfolding digest_bytes
digests_are_bytes h zero = All-nil is_byte
digests_are_bytes h (suc n) =
    All-append is_byte (digest_bytes h n) (to_be_bytes w32 (slice_index h n)) (digests_are_bytes h n) (word_bytes (slice_index h n))

-- the table has sixteen digits
table_digits : AllPass is_lower_digit lower_digits
table_digits = AllPass-from_list_all is_lower_digit lower_digits refl

digit_at : (n : ℕ) → n < 16 → is_digit (slice_index lower_digits n)
digit_at n small = table_digits n 0 small

spelled_in_digits : (xs : List ℕ) → All is_byte xs → AreLowerDigits (encode_with lower_digits xs)
unfolding encode_with
spelled_in_digits [] h = All-nil is_digit
spelled_in_digits (x ∷ xs) h =
    let byte = All-head is_byte x xs h in
    let high = slice_index lower_digits (x / 16) in
    let low = slice_index lower_digits (x % 16) in
    All-cons is_digit high (low ∷ encode_with lower_digits xs) (digit_at (x / 16) (omega (arith, byte)))
    (All-cons is_digit low (encode_with lower_digits xs) (digit_at (x % 16) (omega arith)) (spelled_in_digits xs (All-tail is_byte x xs h)))

pub AreLowerDigits-mac_digits : (key body : List ℕ) → AreLowerDigits (mac_digits key body)
unfolding hmac sha256
AreLowerDigits-mac_digits key body = spelled_in_digits (hmac key body) (digests_are_bytes _ 8)

-- bytes with the same spelling are the same
pub same_spelling : (first second : List ℕ) → IsBytes first → IsBytes second → encode_lower first ≡ encode_lower second → first ≡ second
same_spelling first second a b same =
    decode_of-same (encode_lower first) first second (decode_of-encode_lower first a)
    (ap decode_of same ∙ decode_of-encode_lower second b)
