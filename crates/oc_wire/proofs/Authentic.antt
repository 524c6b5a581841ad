-- MACs in heads.
use Rattle.std.proofs.Common.{◌≡◌, ℕ, Bool, true, false, List, Option, Some, None, length, refl, sym}
use Rattle.std.specs.Prelude.{IfSome, ◌↔◌, IsTrue}
use Rattle.std.specs.Bool.{Decides}
use Rattle.std.specs.Str.{bytes_eq}
use Rattle.std.proofs.lemmas.List.Sums.{list_all-from_AllPass}
use Rattle.std.proofs.lemmas.Slice.Eq.{bytes_eq-Decides}
use Rattle.oc_http.specs.Writing.{IsMac, is_mac_digit}
use Rattle.oc_policy.specs.Keys.{mac_digits, AreLowerDigits}
use Rattle.oc_wire.specs.Macs.{mac_for}

-- the MAC of a body is a MAC of a head
pub is_mac : (key body : List ℕ) → length (mac_digits key body) ≡ 64 → AreLowerDigits (mac_digits key body) → IsMac (mac_digits key body)
is_mac key body long digits = record { long = long; digits = list_all-from_AllPass is_mac_digit (mac_digits key body) digits }

-- the MAC for a body is a MAC of a head, with or without a key
pub some_is_mac : (key : Option (List ℕ)) (body : List ℕ) → ((k b : List ℕ) → length (mac_digits k b) ≡ 64) → ((k b : List ℕ) → AreLowerDigits (mac_digits k b)) → IfSome (mac_for key body) IsMac
some_is_mac None body long digits = tt
some_is_mac (Some key) body long digits = is_mac key body (long key body) (digits key body)

-- two tests of one fact are one
pub one_test : (a b : Bool) (P : Type 0) → Decides a P → Decides b P → a ≡ b
one_test true true P x y = refl
one_test false false P x y = refl
one_test true false P x y = sym (y.1 (x.0 refl))
one_test false true P x y = x.1 (y.0 refl)

-- the test of a MAC is that of its bytes
pub test_is : (result : Bool) (said mac : List ℕ) → (IsTrue result ↔ (said ≡ mac)) → result ≡ bytes_eq said mac
test_is result said mac decides = one_test result (bytes_eq said mac) (said ≡ mac) decides (bytes_eq-Decides said mac)
