-- The settings of a configuration.
use Rattle.std.specs.Prelude.{ℕ, Bool, Option, option_map, List}
use Rattle.oc_updown.specs.declared.measure_lines.Measure.{Measure}
use Rattle.oc_policy.specs.Keys.{Keyring}
use Rattle.oc_policy.specs.declared.rule.Rule.{Rule}

-- the settings of a node, apart from its id: whether the node is retired, the address that others are told, which a retired node does not
-- have, the address at which the node listens, its area and its name
pub record NodeSettings : Type 0 where
  pub retired : Bool
  pub address : Option (List ℕ)
  pub listen : Option (List ℕ)
  pub area : ℕ
  pub name : Option (List ℕ)

-- the chain members, the greatest number of bytes of a chunk, the keys of the network if it has some, the settings of the node with each id
-- that a node can have, the measures, and the rules
pub record Settings : Type 0 where
  pub chain : ℕ
  pub chunk : ℕ
  pub keys : Option Keyring
  pub retired : List Bool
  pub addresses : List (Option (List ℕ))
  pub listens : List (Option (List ℕ))
  pub areas : List ℕ
  pub names : List (Option (List ℕ))
  pub measures : List Measure
  pub rules : List Rule

-- the key of messages that go out
abbrev pub key_of : Option Keyring → Option (List ℕ)
key_of keys = option_map (λ ring. ring.key) keys
