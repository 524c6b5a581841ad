-- The keys of a network.
use Rattle.std.specs.Prelude.{ℕ, nat_le, if◌then◌else◌, Option, Some, None, Result, Ok, Err, List, [], ◌∷◌, ◌++◌}
use Rattle.toml.specs.Data.{Data, Items, no_items, item, as_array, as_str}
use Rattle.oc_base.specs.Steps.{◌>>=◌}
use Rattle.oc_policy.specs.Keys.{Keyring, key_in}
use Rattle.oc_policy.specs.declared.keyring.TheConstants.{MAX_ACCEPTED}
use Rattle.oc_config.specs.Values.{Section, value_in, read_as, read_if, count_items}
use Rattle.oc_config.specs.declared.fault.ConfigFault.{ConfigFault}
use Rattle.oc_config.specs.declared.fault.ConfigFault.TheVariants.{Value}
use Rattle.oc_config.specs.declared.config_key.ConfigKey.TheVariants.{NodeKey, Accept}

-- the key that a text spells
abbrev pub spelled_key : Option (List ℕ) → Option (List ℕ)
spelled_key None = None
spelled_key (Some text) = key_in text

abbrev pub node_key_of : Data → Option (List ℕ)
node_key_of d = spelled_key (as_str d)

-- the key of the nodes, if they have one
abbrev pub node_key_in : Section → Result (Option (List ℕ)) ConfigFault
node_key_in s = read_if NodeKey s node_key_of (value_in NodeKey s)

-- the keys so far and those that these items spell, in their order
abbrev pub keys_from : Section → List (List ℕ) → Items → Result (List (List ℕ)) ConfigFault
keys_from s so_far no_items = Ok so_far
keys_from s so_far (item d ds) = do
  key ← read_as Accept s (node_key_of d)
  keys_from s (so_far ++ key ∷ []) ds

-- the keys of an array of 4 items at most
abbrev pub accepted_of : Section → Option Items → Result (List (List ℕ)) ConfigFault
accepted_of s None = Err (Value s.place Accept)
accepted_of s (Some ds) = if nat_le (count_items ds) MAX_ACCEPTED then keys_from s [] ds else Err (Value s.place Accept)

-- the keys that are accepted besides; none where the configuration has no such key
abbrev pub accepted_at : Section → Option Data → Result (List (List ℕ)) ConfigFault
accepted_at s None = Ok []
accepted_at s (Some d) = accepted_of s (as_array d)

abbrev pub accepted_in : Section → Result (List (List ℕ)) ConfigFault
accepted_in s = accepted_at s (value_in Accept s)

-- no keys where there is no first key: the configuration may list no others then
abbrev pub no_keys : Section → Option Data → Result (Option Keyring) ConfigFault
no_keys s None = Ok None
no_keys s (Some d) = Err (Value s.place Accept)

-- the keys of a network with this first key, if there is one
abbrev pub keyring_in : Section → Option (List ℕ) → Result (Option Keyring) ConfigFault
keyring_in s None = no_keys s (value_in Accept s)
keyring_in s (Some key) = do
  accept ← accepted_in s
  Ok (Some (record { key = key; accept = accept }))

abbrev pub keys_in : Section → Result (Option Keyring) ConfigFault
keys_in s = do
  key ← node_key_in s
  keyring_in s key
