-- Addresses are hosts of requests, by their bytes.
use Rattle.std.proofs.Common.{◌≡◌, ◌∙◌, ℕ, ◌+◌, ◌<◌, ◌≤◌, Bool, true, false, ◌&&◌, ◌||◌, List, [], ◌∷◌, length, refl, ap, ap₂, arith, not, get_or, length-drop, is_ok}
use Rattle.std.specs.Prelude.{◌==◌, nat_le, nat_lt, slice_index}
use Rattle.std.specs.Char.{is_ascii_digit}
use Rattle.std.specs.List.{after_first, before_first, list_all, position_or_len}
use Rattle.std.specs.Str.{byte}
use Rattle.std.proofs.lemmas.Bool.{and_parts, leb-true, ltb-false, ltb-true}
use Rattle.std.proofs.lemmas.Bool.Decides.{nat_tests}
use Rattle.std.proofs.lemmas.List.Folds.{list_all-append}
use Rattle.std.proofs.lemmas.List.Sums.{passes_at_first, split_at_first}
use Rattle.oc_base.specs.Words.{is_number, number_in}
use Rattle.oc_http.specs.Writing.{IsHost, is_host_byte}
use Rattle.oc_config.specs.Addresses.{is_address, is_after_host, is_bracketed, is_closing, is_colon, is_hostname, is_hostname_byte, is_ipv6, is_ipv6_byte, is_named, is_port}

hostname_byte : (b : ℕ) → is_hostname_byte b ≡ true → is_host_byte b ≡ true
hostname_byte b is = grind (arith, nat_tests)

digit_byte : (b : ℕ) → is_ascii_digit b ≡ true → is_host_byte b ≡ true
digit_byte b is = grind (arith, nat_tests)

ipv6_byte : (b : ℕ) → is_ipv6_byte b ≡ true → is_host_byte b ≡ true
ipv6_byte b is = grind (arith, nat_tests)

colon_byte : (b : ℕ) → is_colon b ≡ true → is_host_byte b ≡ true
colon_byte b is = grind (arith, nat_tests)

closing_byte : (b : ℕ) → is_closing b ≡ true → is_host_byte b ≡ true
closing_byte b is = grind (arith, nat_tests)

opening_byte : (b : ℕ) → (b == byte "[") ≡ true → is_host_byte b ≡ true
opening_byte b is = grind (arith, nat_tests)

-- bytes that all pass a test pass a weaker one
all_by : (p q : ℕ → Bool) → ((b : ℕ) → p b ≡ true → q b ≡ true) → (bs : List ℕ) → list_all p bs ≡ true → list_all q bs ≡ true
all_by p q so [] is = refl
all_by p q so (b ∷ bs) is = let parts = and_parts (p b) (list_all p bs) is in ap₂ (λ x y. x && y) (so b parts.0) (all_by p q so bs parts.1)

-- a text that is a number is some digits
digits_of : (least most : ℕ) (text : List ℕ) → is_ok (number_in least most text) ≡ true → (list_all is_ascii_digit text ≡ true) × (0 < length text)
digits_of least most text is = by_number (is_number text) refl is where
  some : (n : ℕ) → not (n == 0) ≡ true → 0 < n
  some n is = by_less (nat_lt 0 n) is where
    by_less : Bool → not (n == 0) ≡ true → 0 < n
    by_less b is = grind arith

  by_number : (b : Bool) → is_number text ≡ b → is_ok (number_in least most text) ≡ true → (list_all is_ascii_digit text ≡ true) × (0 < length text)
  by_number true number ok =
      let first = and_parts (not (length text == 0) && not (nat_lt 1 (length text) && slice_index text 0 == byte "0")) (list_all is_ascii_digit text) number in
      let second = and_parts (not (length text == 0)) (not (nat_lt 1 (length text) && slice_index text 0 == byte "0")) first.0 in
      (first.1, some (length text) second.0)
  by_number false number ok = absurd cc

-- a text with bytes after the first such byte has one
there_is : (p : ℕ → Bool) (text : List ℕ) → 0 < length (after_first p text) → position_or_len p text < length text
there_is p text some = by_place (nat_lt (position_or_len p text) (length text)) refl where
  by_place : (b : Bool) → nat_lt (position_or_len p text) (length text) ≡ b → position_or_len p text < length text
  by_place true within = ltb-true _ _ within
  by_place false past =
      let far : length text ≤ position_or_len p text = ltb-false _ _ past in
      absurd (omega (arith, some, length-drop (position_or_len p text + 1) text, far))

-- a text in three parts, of which each has such bytes
in_parts : (p : ℕ → Bool) (text : List ℕ) → ((b : ℕ) → p b ≡ true → is_host_byte b ≡ true) → position_or_len p text < length text
    → list_all is_host_byte (before_first p text) ≡ true → list_all is_host_byte (after_first p text) ≡ true → list_all is_host_byte text ≡ true
in_parts p text so within before after =
    ap (list_all is_host_byte) (split_at_first p text 0 within)
    ∙ list_all-append is_host_byte (before_first p text) (get_or text (position_or_len p text) 0 ∷ after_first p text)
    ∙ ap₂ (λ x y. x && y) before (ap₂ (λ x y. x && y) (so (get_or text (position_or_len p text) 0) (passes_at_first p text 0 within)) after)

port_bytes : (port : List ℕ) → is_port port ≡ true → list_all is_host_byte port ≡ true
port_bytes port is = all_by is_ascii_digit is_host_byte digit_byte port (digits_of 1 65535 port is).0

-- a host, a colon and a port
named_bytes : (text : List ℕ) → is_named text ≡ true → (0 < length text) × (list_all is_host_byte text ≡ true)
named_bytes text is =
    let parts = and_parts (is_hostname (before_first is_colon text)) (is_port (after_first is_colon text)) is in
    let host = (and_parts (not (length (before_first is_colon text) == 0)) (list_all is_hostname_byte (before_first is_colon text)) parts.0).1 in
    let within = there_is is_colon text (digits_of 1 65535 (after_first is_colon text) parts.1).1 in (
      omega (arith, within),
      in_parts is_colon text colon_byte within (all_by is_hostname_byte is_host_byte hostname_byte (before_first is_colon text) host) (port_bytes (after_first is_colon text) parts.1),
    )

-- the bytes after a host in brackets
behind_bytes : (text : List ℕ) → is_after_host text ≡ true → (0 < length text) × (list_all is_host_byte text ≡ true)
behind_bytes [] is = absurd cc
behind_bytes (b ∷ port) is =
    let parts = and_parts (is_colon b) (is_port port) is in
    (omega arith, ap₂ (λ x y. x && y) (colon_byte b parts.0) (port_bytes port parts.1))

-- a host in brackets, a colon and a port
bracketed_bytes : (text : List ℕ) → is_bracketed text ≡ true → (0 < length text) × (list_all is_host_byte text ≡ true)
bracketed_bytes [] is = absurd cc
bracketed_bytes (b ∷ rest) is =
    let parts = and_parts (b == byte "[") _ is in
    let inner = and_parts (is_ipv6 (before_first is_closing rest)) (is_after_host (after_first is_closing rest)) parts.1 in
    let host = (and_parts (list_all is_ipv6_byte (before_first is_closing rest)) _ inner.0).0 in
    let behind = behind_bytes (after_first is_closing rest) inner.1 in
    let all = in_parts is_closing rest closing_byte (there_is is_closing rest behind.0) (all_by is_ipv6_byte is_host_byte ipv6_byte (before_first is_closing rest) host) behind.1 in
    (omega arith, ap₂ (λ x y. x && y) (opening_byte b parts.0) all)

-- one of two tests passes
either : (a b : Bool) (P : Type 0) → (a || b) ≡ true → (a ≡ true → P) → (b ≡ true → P) → P
either true b P is first second = first refl
either false b P is first second = second is

pub address_bytes : (text : List ℕ) → is_address text ≡ true → IsHost text
address_bytes text is =
    let parts = and_parts (nat_le (length text) 255) (is_named text || is_bracketed text) is in
    let bytes = either (is_named text) (is_bracketed text) ((0 < length text) × (list_all is_host_byte text ≡ true)) parts.1 (named_bytes text) (bracketed_bytes text) in
    record { some = omega (arith, bytes.0); most = leb-true _ _ parts.0; bytes = bytes.1 }
