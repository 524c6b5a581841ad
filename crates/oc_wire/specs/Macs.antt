-- The MACs of messages, where the nodes have a key.
use Rattle.std.specs.Prelude.{◌≡◌, ℕ, Bool, true, false, Option, Some, None, List, option_map}
use Rattle.std.specs.List.{Any}
use Rattle.oc_http.specs.Writing.{request_with}
use Rattle.oc_model.specs.declared.message.Message.{Message}
use Rattle.oc_policy.specs.Keys.{Keyring, is_mac_in, keys_in, mac_digits}
use Rattle.oc_wire.specs.Spelling.{spelling}

-- the MAC in the head of a message with this body under this key; none without a key
abbrev pub mac_for : Option (List ℕ) → List ℕ → Option (List ℕ)
mac_for key body = option_map (λ k. mac_digits k body) key

-- with keys, a head has the MAC of the body under one of them; without keys any head will do
abbrev pub is_authentic : Option Keyring → Option (List ℕ) → List ℕ → Bool
is_authentic None said body = true
is_authentic (Some ring) None body = false
is_authentic (Some ring) (Some said) body = is_mac_in ring body said

-- a head with the MAC of the body under one of the keys
abbrev pub HasMac : Keyring → Option (List ℕ) → List ℕ → Type 0
HasMac ring said body = Any (λ key. said ≡ Some (mac_digits key body)) (keys_in ring)

-- the request that brings a message to a host, with its MAC where there is a key
abbrev pub request_of : Option (List ℕ) → List ℕ → Message → List ℕ
request_of key host m = request_with (mac_for key (spelling m)) host (spelling m)
