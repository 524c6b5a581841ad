-- Messages that have their MAC under a key of the network.
use Rattle.std.proofs.Common.{◌≡◌, ℕ, Bool, true, List, Option, Some, None, refl, ap, ◌∙◌}
use Rattle.std.specs.List.{Any, Contains}
use Rattle.std.specs.Str.{bytes_eq}
use Rattle.std.proofs.lemmas.List.Folds.{Any-from_list_any, list_any_at}
use Rattle.std.proofs.lemmas.Slice.Eq.{bytes_eq-Decides}
use Rattle.oc_policy.specs.Keys.{Keyring, is_mac_under, keys_in, mac_digits}
use Rattle.oc_wire.specs.Macs.{HasMac, is_authentic, mac_for}

-- a message that is believed has its MAC under one of the keys
pub believed : (ring : Keyring) (said : Option (List ℕ)) (body : List ℕ) → is_authentic (Some ring) said body ≡ true → HasMac ring said body
believed ring None body is = cc
believed ring (Some said) body is =
    let one : Any (λ (key : List ℕ). is_mac_under body said key ≡ true) (keys_in ring) = Any-from_list_any (is_mac_under body said) (keys_in ring) is in
    (one.0, one.1, one.2, one.3, ap (λ (m : List ℕ). Some m) ((bytes_eq-Decides said (mac_digits one.1 body)).0 one.4))

-- a message that has its MAC under one of the keys is believed
pub sent : (ring : Keyring) (key body : List ℕ) → Contains (keys_in ring) key → is_authentic (Some ring) (mac_for (Some key) body) body ≡ true
sent ring key body has =
    list_any_at (is_mac_under body (mac_digits key body)) (keys_in ring) has.0 key has.1
    (ap (is_mac_under body (mac_digits key body)) has.2 ∙ (bytes_eq-Decides (mac_digits key body) (mac_digits key body)).1 refl)
