-- Addresses of IPv6, as std reads them.
use Rattle.std.proofs.lemmas.Bool.Decides.{nat_tests}
use Rattle.std.proofs.Common.{arith, ◌≡◌, ℕ, Bool, false, List, [], ◌∷◌, length, Some, None, Result, Ok, Err, refl, sym, ap, ◌∙◌, subst, append-nil, is_ok}
use Rattle.std.specs.Prelude.{is_some, suc, ◌==◌, if◌then◌else◌}
use Rattle.std.specs.Net.Addr.{ipv6_segments}
use Rattle.std.specs.Net.Grammar.{Parses, IsIpv6Text, IsColonHex}
use Rattle.std.specs.Net.Reader.{Read, read_ipv6, whole_value}
use Rattle.std.specs.declared.net.ipv6_addr.Ipv6Addr.{Ipv6Addr}
use Rattle.std.proofs.NetLemmas.Ipv6.{read_ipv6_sound, read_ipv6_complete, EndsGroups-nil}

-- the address of some segments
abbrev address_of : List ℕ → Ipv6Addr
address_of segments = record { segments = segments }

no_zero : (n : ℕ) → (suc n == 0) ≡ false
no_zero n = grind (arith, nat_tests)

-- a reading that leaves some bytes is no whole value
left_over : (segments : List ℕ) (n : ℕ) → false ≡ is_some (if suc n == 0 then Some segments else None)
left_over segments n = ap (λ (b : Bool). is_some (if b then Some segments else None)) (sym (no_zero n))

-- a text that is no address is not read as one
none_read : (text : List ℕ) → ((a : Ipv6Addr) → ¬ (IsIpv6Text text a)) → (read : Read (List ℕ)) → read_ipv6 text ≡ read → false ≡ is_some (whole_value read)
none_read text none None e = refl
none_read text none (Some (segments, b ∷ rest)) e = left_over segments (length rest)
none_read text none (Some (segments, [])) e =
    let sound = read_ipv6_sound text segments [] e in
    let whole : text ≡ sound.0 = sound.1 ∙ append-nil sound.0 in
    absurd (none (address_of segments) (subst (λ (t : List ℕ). IsColonHex t segments) (sym whole) sound.2))

-- a text is parsed where it is read to its end
pub spells_is : {E : Type 0} (text : List ℕ) (r : Result Ipv6Addr E) → Parses IsIpv6Text text r → is_ok r ≡ is_some (whole_value (read_ipv6 text))
spells_is text (Ok a) parsed =
    let read : read_ipv6 text ≡ Some (ipv6_segments a, []) = rw append-nil at (read_ipv6_complete text (ipv6_segments a) [] parsed EndsGroups-nil) in
    sym (ap (λ (o : Read (List ℕ)). is_some (whole_value o)) read)
spells_is text (Err e) none = none_read text none (read_ipv6 text) refl
