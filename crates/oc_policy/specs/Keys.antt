-- The keys of a network, the texts that spell them, and the spelling of MACs.
use Rattle.std.specs.Prelude.{◌≡◌, ℕ, ◌%◌, ◌≤◌, nat_le, Bool, ◌&&◌, ◌||◌, if◌then◌else◌, Option, None, List, ◌∷◌, length}
use Rattle.std.specs.List.{AllPass, list_any}
use Rattle.std.specs.Str.{bytes_eq}
use Rattle.std.specs.Result.{result_ok}
use Rattle.hex.specs.Hex.{decode_of, encode_lower, is_hex_digit}
use Rattle.oc_policy.specs.Hmac.{hmac}

-- the key that a text spells: of 32 to 128 digits, each two of which are a byte
abbrev pub key_in : List ℕ → Option (List ℕ)
key_in text = if nat_le 32 (length text) && nat_le (length text) 128 then result_ok (decode_of text) else None

-- 32 to 128 hexadecimal digits of either case, an even number
pub record IsKeyText (text : List ℕ) : Type 0 where
  pub least : 32 ≤ length text
  pub most : length text ≤ 128
  pub even : length text % 2 ≡ 0
  pub digits : AllPass is_hex_digit text

-- the MAC of a body under a key, each byte as two digits in lower case
abbrev pub mac_digits : List ℕ → List ℕ → List ℕ
mac_digits key body = encode_lower (hmac key body)

-- `0` to `9` or `a` to `f`
abbrev pub is_lower_digit : ℕ → Bool
is_lower_digit byte = (nat_le 48 byte && nat_le byte 57) || (nat_le 97 byte && nat_le byte 102)

abbrev pub AreLowerDigits : List ℕ → Type 0
AreLowerDigits text = AllPass is_lower_digit text

-- the keys of a network: a message that goes out has its MAC under the first alone, and one that comes may have it under any other too
pub record Keyring : Type 0 where
  pub key : List ℕ
  pub accept : List (List ℕ)

-- all keys of a network
abbrev pub keys_in : Keyring → List (List ℕ)
keys_in ring = ring.key ∷ ring.accept

abbrev pub is_mac_under : List ℕ → List ℕ → List ℕ → Bool
is_mac_under body text key = bytes_eq text (mac_digits key body)

-- a text that is the MAC of a body under one of the keys
abbrev pub is_mac_in : Keyring → List ℕ → List ℕ → Bool
is_mac_in ring body text = list_any (is_mac_under body text) (keys_in ring)
