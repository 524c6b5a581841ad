-- The texts that spell a key.
use Rattle.std.proofs.Common.{◌≡◌, ℕ, Bool, true, false, ◌&&◌, ◌⊎◌, inl, inr, List, length, Result, Ok, Err, refl, arith}
use Rattle.std.specs.Prelude.{◌↔◌, nat_le, IsSome}
use Rattle.std.specs.Result.{result_ok}
use Rattle.hex.proofs.HexLemmas.{decode_of-digits, decode_of-ok}
use Rattle.hex.specs.Hex.{decode_of}
use Rattle.hex.specs.declared.error.FromHexError.{FromHexError}
use Rattle.oc_policy.specs.Keys.{IsKeyText, key_in}

ok_within : (r : Result (List ℕ) FromHexError) → IsSome (result_ok r) → (bytes : List ℕ) × (r ≡ Ok bytes)
ok_within (Ok bytes) some = (bytes, refl)
ok_within (Err fault) some = cc some

true_or_false : (b : Bool) → (b ≡ true) ⊎ (b ≡ false)
true_or_false true = inl refl
true_or_false false = inr refl

-- a text spells a key exactly where it is a key's
pub spells_a_key : (text : List ℕ) → IsSome (key_in text) ↔ IsKeyText text
spells_a_key text = (
  λ some. elim (true_or_false (nat_le 32 (length text) && nat_le (length text) 128)) [
    | inl is ↦
        let read = ok_within (decode_of text) (rw is at some) in
        let parts = decode_of-ok text read.0 read.1 in
        record { least = grind (arith, is); most = grind (arith, is); even = parts.0; digits = parts.1 }
    | inr not ↦ let none = rw not at some in cc none
  ],
  λ good.
      let few = good.least in
      let many = good.most in
      let is : (nat_le 32 (length text) && nat_le (length text) 128) ≡ true = grind (arith, few, many) in
      let read = decode_of-digits text good.even good.digits in
      rw (is, read.1) refl,
)
