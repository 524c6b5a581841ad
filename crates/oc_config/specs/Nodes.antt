-- The tables of nodes.
use Rattle.std.specs.Prelude.{◌≡◌, ℕ, Bool, true, false, ◌-◌, ◌&&◌, if◌then◌else◌, Option, Some, None, unwrap_or, option_map, is_some, Result, Ok, Err, String, string_bytes, List, [], ◌∷◌, map, length, slice_index_or, slice_set}
use Rattle.std.specs.List.{list_any}
use Rattle.std.specs.Option.{option_or}
use Rattle.std.specs.Str.{bytes_eq}
use Rattle.std.specs.declared.alloc.Global.{Global}
use Rattle.toml.specs.Data.{Data, as_bool, as_str}
use Rattle.oc_base.specs.Steps.{◌>>=◌}
use Rattle.oc_config.specs.Addresses.{is_address, is_reachable}
use Rattle.oc_config.specs.Names.{is_name}
use Rattle.oc_config.specs.Settings.{NodeSettings}
use Rattle.oc_config.specs.Values.{Section, value_in, required, read_as, read_if, whole_in, area_in}
use Rattle.oc_config.specs.declared.fault.ConfigFault.{ConfigFault}
use Rattle.oc_config.specs.declared.fault.ConfigFault.TheVariants.{Value, Repeat, Memory}
use Rattle.oc_config.specs.declared.config_key.ConfigKey.TheVariants.{Id, Retired, Address, Listen, Name}

-- the id in a table, where the greatest id is `nodes`
abbrev pub id_in : ℕ → Section → Result ℕ ConfigFault
id_in nodes s = do
  d ← required Id s
  read_as Id s (whole_in 1 nodes d)

-- the answer to whether a node is retired; a node with an address cannot be
abbrev pub unless_placed : Bool → Option Bool → Option Bool
unless_placed placed None = None
unless_placed placed (Some retired) = if retired && placed then None else Some retired

abbrev pub retired_of : Section → Data → Option Bool
retired_of s d = unless_placed (is_some (value_in Address s)) (as_bool d)

-- whether a node is retired; no where the table does not tell
abbrev pub retired_in : Section → Result Bool ConfigFault
retired_in s = do
  retired ← read_if Retired s (retired_of s) (value_in Retired s)
  Ok (unwrap_or retired false)

-- the text, where others can reach a node at it
abbrev pub reachable_of : Option (List ℕ) → Option (List ℕ)
reachable_of None = None
reachable_of (Some text) = if is_reachable text then Some text else None

abbrev pub address_in : Section → Result (List ℕ) ConfigFault
address_in s = do
  d ← required Address s
  read_as Address s (reachable_of (as_str d))

-- the address of a node, which a retired one does not have
abbrev pub address_unless : Bool → Section → Result (Option (List ℕ)) ConfigFault
address_unless true s = Ok None
address_unless false s = do
  address ← address_in s
  Ok (Some address)

-- the text, where a node can listen at it
abbrev pub address_of : Option (List ℕ) → Option (List ℕ)
address_of None = None
address_of (Some text) = if is_address text then Some text else None

abbrev pub listen_of : Data → Option (List ℕ)
listen_of d = address_of (as_str d)

-- the address at which a node listens: `listen`, or without one the address of the node, if it has one
abbrev pub listen_in : Section → Option (List ℕ) → Result (Option (List ℕ)) ConfigFault
listen_in s address = do
  listen ← read_if Listen s listen_of (value_in Listen s)
  Ok (option_or listen address)

-- the area of a node, which is 0 where the table has none
abbrev pub node_area_in : Section → Result ℕ ConfigFault
node_area_in s = do
  area ← area_in s
  Ok (unwrap_or area 0)

-- the text, where it is a name
abbrev pub lawful_name : Option (List ℕ) → Option (List ℕ)
lawful_name None = None
lawful_name (Some text) = if is_name text then Some text else None

abbrev pub name_of : Data → Option (List ℕ)
name_of d = lawful_name (as_str d)

-- the name of a node, if it has one
abbrev pub name_in : Section → Result (Option (List ℕ)) ConfigFault
name_in s = read_if Name s name_of (value_in Name s)

-- the settings of a node, apart from its id, with this retirement and this address
abbrev pub entry_with : Section → Bool → Option (List ℕ) → Result NodeSettings ConfigFault
entry_with s retired address = do
  listen ← listen_in s address
  area ← node_area_in s
  name ← name_in s
  Ok (record { retired = retired; address = address; listen = listen; area = area; name = name })

abbrev pub entry_in : Section → Result NodeSettings ConfigFault
entry_in s = do
  retired ← retired_in s
  address ← address_unless retired s
  entry_with s retired address

-- a text that is there and is this one
abbrev pub is_text : List ℕ → Option (List ℕ) → Bool
is_text text None = false
is_text text (Some said) = bytes_eq said text

-- a place whose node has this address
abbrev pub has_address : List ℕ → Option NodeSettings → Bool
has_address address None = false
has_address address (Some place) = is_text address place.address

abbrev pub is_taken : List (Option NodeSettings) → Option (List ℕ) → Bool
is_taken places None = false
is_taken places (Some address) = list_any (has_address address) places

-- success where no table before has the address
abbrev pub is_new : List (Option NodeSettings) → Section → Option (List ℕ) → Result (Unit {0}) ConfigFault
is_new places s address = if is_taken places address then Err (Value s.place Address) else Ok tt

-- the settings of a node in a table, where no table before has its address
abbrev pub new_entry_in : List (Option NodeSettings) → Section → Result NodeSettings ConfigFault
new_entry_in places s = do
  retired ← retired_in s
  address ← address_unless retired s
  done ← is_new places s address
  entry_with s retired address

-- the places with this node at an id
abbrev pub put_place : List (Option NodeSettings) → ℕ → NodeSettings → Result (List (Option NodeSettings)) ConfigFault
put_place places id place = Ok (slice_set places (id - 1) (Some place))

-- the places with the node of a table at an id
abbrev pub put_free : List (Option NodeSettings) → ℕ → Section → Result (List (Option NodeSettings)) ConfigFault
put_free places id s = do
  place ← new_entry_in places s
  put_place places id place

-- the places with the node of a table at an id that no table before has
abbrev pub put_new : List (Option NodeSettings) → ℕ → Section → Result (List (Option NodeSettings)) ConfigFault
put_new places id s =
    if is_some (slice_index_or places (id - 1) None) then Err (Repeat s.place id) else put_free places id s

-- the places of the nodes by their ids, with that of one more table
abbrev pub node_in : List (Option NodeSettings) → Section → Result (List (Option NodeSettings)) ConfigFault
node_in places s = do
  id ← id_in (length places) s
  put_new places id s

-- the places of the nodes by their ids, with those of all tables, in their order
abbrev pub nodes_in : List (Option NodeSettings) → List Section → Result (List (Option NodeSettings)) ConfigFault
nodes_in places [] = Ok places
nodes_in places (s ∷ rest) = do
  next ← node_in places s
  nodes_in next rest

-- the settings of a node whose id no table has
abbrev pub unsaid : NodeSettings
unsaid = record { retired = false; address = None; listen = None; area = 0; name = None }

-- the settings of the node at a place
abbrev pub said_at : Option NodeSettings → NodeSettings
said_at place = unwrap_or place unsaid

abbrev pub retired_at : Option NodeSettings → Bool
retired_at place = (said_at place).retired

abbrev pub address_at : Option NodeSettings → Option (List ℕ)
address_at place = (said_at place).address

abbrev pub listen_at : Option NodeSettings → Option (List ℕ)
listen_at place = (said_at place).listen

abbrev pub area_at : Option NodeSettings → ℕ
area_at place = (said_at place).area

abbrev pub name_at : Option NodeSettings → Option (List ℕ)
name_at place = (said_at place).name

-- the places with one more table, or the fault of the table
abbrev pub GivesNode : Result (Unit {0}) ConfigFault → List (Option NodeSettings) → List (Option NodeSettings) → Section → Type 0
GivesNode (Ok done) old new s = node_in old s ≡ Ok new
GivesNode (Err Memory) old new s = Unit {0}
GivesNode (Err fault) old new s = node_in old s ≡ Err fault

-- lists of the settings of all nodes, one for each field, as code has them, that are those of the places
pub record AreOf (retired : List Bool) (told heard : List (Option (String Global))) (near : List ℕ) (named : List (Option (String Global))) (places : List (Option NodeSettings)) : Type 0 where
  pub retired_are : retired ≡ map retired_at places
  pub addresses : map (option_map string_bytes) told ≡ map address_at places
  pub listens : map (option_map string_bytes) heard ≡ map listen_at places
  pub areas : near ≡ map area_at places
  pub names : map (option_map string_bytes) named ≡ map name_at places
