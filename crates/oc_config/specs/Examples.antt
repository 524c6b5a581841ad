-- Worked examples of configurations.
use Rattle.std.specs.Prelude.{ℕ, pos, Bool, true, false, Option, Some, None, Result, Ok, Err, List, [], ◌∷◌, ◌++◌, codes, replicate}
use Rattle.toml.specs.Data.{Data, string, integer, boolean, array, table, Items, no_items, item, Members, no_members, member}
use Rattle.oc_policy.specs.Keys.{Keyring}
use Rattle.oc_config.specs.Reading.{settings_in}
use Rattle.oc_config.specs.Settings.{Settings}
use Rattle.oc_config.specs.Values.{top}
use Rattle.oc_config.specs.declared.change.Running.{Running}
use Rattle.oc_config.specs.declared.config.TheConstants.{FIRST_CHUNK}
use Rattle.oc_config.specs.declared.fault.ConfigFault.{ConfigFault}

abbrev pub number : ℕ → Data
number n = integer (pos n)

abbrev pub text : List ℕ → Data
text t = string t

-- `id = ID`, and `address = "a:1"` before it
abbrev pub placed : ℕ → Members
placed id = member (codes "address") (text (codes "a:1")) (member (codes "id") (number id) no_members)

-- a configuration with a chain of one, these nodes and more at the top
abbrev pub of_nodes : Items → Members → Members
of_nodes nodes more = member (codes "chain") (number 1) (member (codes "node") (array nodes) more)

abbrev pub one_node : Members → Members → Members
one_node node more = of_nodes (item (table node) no_items) more

abbrev pub read : Members → Result Settings ConfigFault
read members = settings_in (top members)

-- `nodes = 3`, of which the second alone has a table
abbrev pub with_room : Members
with_room = one_node (placed 2) (member (codes "nodes") (number 3) no_members)

abbrev pub with_room_read : Settings
with_room_read = record {
  chain = 1;
  chunk = FIRST_CHUNK;
  keys = None;
  retired = false ∷ false ∷ false ∷ [];
  addresses = None ∷ Some (codes "a:1") ∷ None ∷ [];
  listens = None ∷ Some (codes "a:1") ∷ None ∷ [];
  areas = 0 ∷ 0 ∷ 0 ∷ [];
  names = None ∷ None ∷ None ∷ [];
  measures = [];
  rules = [];
}

-- `retired = true`, with and without an address
abbrev pub retired_node : Members
retired_node = member (codes "id") (number 1) (member (codes "name") (text (codes "Old site")) (member (codes "retired") (boolean true) no_members))

abbrev pub retired_and_placed : Members
retired_and_placed = member (codes "address") (text (codes "a:1")) retired_node

abbrev pub retired_read : Settings
retired_read = record with_room_read {
  retired = true ∷ [];
  addresses = None ∷ [];
  listens = None ∷ [];
  areas = 0 ∷ [];
  names = Some (codes "Old site") ∷ [];
}

-- `name = "NAME"`
abbrev pub named : List ℕ → Members
named name = member (codes "address") (text (codes "a:1")) (member (codes "id") (number 1) (member (codes "name") (text name) no_members))

-- a key of 16 bytes, each of which is spelled by these two digits
abbrev pub key_of_digits : List ℕ → List ℕ
key_of_digits two = two ++ two ++ two ++ two ++ two ++ two ++ two ++ two ++ two ++ two ++ two ++ two ++ two ++ two ++ two ++ two

abbrev pub accepts : Items → Members → Members
accepts keys more = one_node (placed 1) (member (codes "accept") (array keys) more)

abbrev pub has_key : Members
has_key = member (codes "key") (text (key_of_digits (codes "01"))) no_members

abbrev pub other_key : Data
other_key = text (key_of_digits (codes "fF"))

abbrev pub two_keys : Keyring
two_keys = record { key = replicate 16 1; accept = replicate 16 255 ∷ [] }

abbrev pub two_keys_read : Settings
two_keys_read = record with_room_read {
  keys = Some two_keys;
  retired = false ∷ [];
  addresses = Some (codes "a:1") ∷ [];
  listens = Some (codes "a:1") ∷ [];
  areas = 0 ∷ [];
  names = None ∷ [];
}

-- one key too many
abbrev pub five_keys : Items
five_keys = item other_key (item other_key (item other_key (item other_key (item other_key no_items))))

-- settings that are read again: at first there is the first node alone
abbrev pub one_place : Settings
one_place = record two_keys_read { keys = None }

-- settings with room for three nodes
abbrev pub grown : Settings
grown = record one_place {
  retired = false ∷ false ∷ false ∷ [];
  addresses = Some (codes "a:1") ∷ None ∷ None ∷ [];
  listens = Some (codes "a:1") ∷ None ∷ None ∷ [];
  areas = 0 ∷ 0 ∷ 0 ∷ [];
  names = None ∷ None ∷ None ∷ [];
}

-- the first node, which writes a record or not
abbrev pub running : Bool → Running
running recorded = record { me = 1; recorded = recorded }
