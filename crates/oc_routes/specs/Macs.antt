-- The MAC of a message's body under a key of the network.
use Rattle.std.specs.Prelude.{◌≡◌, ℕ, Bool, false, not, Option, List, ◌++◌, take}
use Rattle.oc_http.specs.Taking.{SaysRequest}
use Rattle.oc_http.specs.declared.head.Head.{Head}
use Rattle.oc_policy.specs.Keys.{Keyring}
use Rattle.oc_routes.specs.declared.routes.Operation.{Operation}
use Rattle.oc_routes.specs.declared.routes.Operation.TheVariants as asks
use Rattle.oc_wire.specs.Macs.{HasMac, is_authentic}

-- an operation to take a message that is not authentic
abbrev pub is_forged : Option Keyring → Operation → Option (List ℕ) → List ℕ → Bool
is_forged keys asks.Message mac body = not (is_authentic keys mac body)
is_forged keys other mac body = false

-- the bytes are a head and a body, with more after them or nothing, and the head has the MAC of the body under one of these keys
pub record HaveMac (ring : Keyring) (bytes : List ℕ) : Type 0 where
  pub front : List ℕ
  pub rest : List ℕ
  pub head : Head
  pub bytes_are : bytes ≡ front ++ rest
  pub says : SaysRequest front head
  pub mac : HasMac ring head.mac (take head.length rest)
