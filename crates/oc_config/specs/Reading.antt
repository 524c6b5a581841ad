-- The settings that a text spells, or its first fault.
use Rattle.std.specs.Prelude.{◌≡◌, ℕ, ◌+◌, ◌≤◌, ◌==◌, Bool, true, nat_lt, if◌then◌else◌, Option, Some, None, IfSome, unwrap_or, Result, Ok, Err, String, List, [], length, map, replicate, take, filter, All}
use Rattle.std.specs.Str.{byte, is_utf8}
use Rattle.std.specs.BTreeMap.{BTreeMap}
use Rattle.std.specs.declared.alloc.Global.{Global}
use Rattle.toml.specs.Data.{Data, Members, as_str}
use Rattle.toml.specs.Parse.{parse_document}
use Rattle.toml.specs.View.{table_view}
use Rattle.toml.specs.declared.value.Value.{Value as TomlValue}
use Rattle.oc_base.specs.Steps.{◌>>=◌}
use Rattle.oc_base.specs.declared.limits.TheConstants.{MAX_CHAIN, MAX_NODES}
use Rattle.oc_updown.specs.MeasureLines as lines
use Rattle.oc_updown.specs.declared.measure_fault.MeasureFault.{MeasureFault}
use Rattle.oc_updown.specs.declared.measure_lines.Measure.{Measure}
use Rattle.oc_policy.specs.declared.keyring.TheConstants.{MAX_ACCEPTED}
use Rattle.oc_policy.specs.declared.deciding.TheConstants.{MAX_RULES}
use Rattle.oc_policy.specs.declared.rule.Rule.{Rule}
use Rattle.oc_config.specs.Accepted.{keys_in}
use Rattle.oc_config.specs.AccessRules.{rules_from, rule_tables_in}
use Rattle.oc_config.specs.Addresses.{is_address, is_reachable}
use Rattle.oc_config.specs.Known.{known_in, all_known}
use Rattle.oc_config.specs.Names.{is_name}
use Rattle.oc_config.specs.Nodes.{nodes_in, retired_at, address_at, listen_at, area_at, name_at}
use Rattle.oc_config.specs.Settings.{NodeSettings, Settings}
use Rattle.oc_config.specs.Values.{Section, top, value_in, required, read_as, read_if, whole_in, tables_in, fault_of, Gives, GivesBy}
use Rattle.oc_config.specs.declared.config.TheConstants.{MAX_CHUNK, FIRST_CHUNK}
use Rattle.oc_config.specs.declared.fault.ConfigFault.{ConfigFault}
use Rattle.oc_config.specs.declared.fault.ConfigFault.TheVariants.{Toml, Value}
use Rattle.oc_config.specs.declared.config_key.ConfigKey.TheVariants.{Chain, Nodes, Chunk, Node, Measures}
use Rattle.oc_config.specs.declared.section_name.Kind.TheVariants as kinds
use Rattle.oc_config.specs.declared.reading.NetworkSettings.{NetworkSettings}

-- the number of chain members
abbrev pub chain_in : Section → Result ℕ ConfigFault
chain_in s = do
  d ← required Chain s
  read_as Chain s (whole_in 1 MAX_CHAIN d)

-- the greatest id of a node, if the text has the key
abbrev pub greatest_in : Section → Result (Option ℕ) ConfigFault
greatest_in s = read_if Nodes s (whole_in 1 MAX_NODES) (value_in Nodes s)

-- the greatest number of bytes of a chunk
abbrev pub chunk_at : Section → Option Data → Result ℕ ConfigFault
chunk_at s None = Ok FIRST_CHUNK
chunk_at s (Some d) = read_as Chunk s (whole_in 1 MAX_CHUNK d)

abbrev pub chunk_in : Section → Result ℕ ConfigFault
chunk_in s = chunk_at s (value_in Chunk s)

-- the tables of the nodes
abbrev pub node_tables_in : Section → Result (List Section) ConfigFault
node_tables_in s = do
  d ← required Node s
  read_as Node s (tables_in kinds.Node 1 MAX_NODES d)

-- no chain member past the greatest id
abbrev pub chain_within : Section → ℕ → ℕ → Result (Unit {0}) ConfigFault
chain_within s nodes chain = if nat_lt nodes chain then Err (Value s.place Chain) else Ok tt

-- the measures, or their fault
abbrev pub or_measure_fault : Result (List Measure) MeasureFault → Result (List Measure) ConfigFault
or_measure_fault (Ok measures) = Ok measures
or_measure_fault (Err fault) = Err (fault_of fault)

-- the measures of a text; none where there is no such key
abbrev pub measures_at : ℕ → Section → Option Data → Result (List Measure) ConfigFault
measures_at nodes s None = Ok []
measures_at nodes s (Some d) = do
  text ← read_as Measures s (as_str d)
  or_measure_fault (lines.measures_in nodes text)

abbrev pub measures_in : ℕ → Section → Result (List Measure) ConfigFault
measures_in nodes s = measures_at nodes s (value_in Measures s)

-- the greatest id: that of the text, or the number of tables
abbrev pub greatest_of : NetworkSettings → List Section → ℕ
greatest_of network nodes = unwrap_or network.nodes (length nodes)

-- The settings of a text, step by step, the last step first. The fault is that of the earliest step which has one.

-- the settings of these parts
abbrev pub settings_with : NetworkSettings → List (Option NodeSettings) → List Measure → List Rule → Result Settings ConfigFault
settings_with network places measures rules = Ok (record {
  chain = network.chain;
  chunk = network.chunk;
  keys = network.keys;
  retired = map retired_at places;
  addresses = map address_at places;
  listens = map listen_at places;
  areas = map area_at places;
  names = map name_at places;
  measures = measures;
  rules = rules;
})

-- the keys of the tables of nodes and of rules, in the order of the text, after those at the top
abbrev pub tables_known : List Section → List Section → Result (Unit {0}) ConfigFault
tables_known nodes rules = do
  done ← all_known nodes
  all_known rules

abbrev pub keys_known : Section → List Section → List Section → Result (Unit {0}) ConfigFault
keys_known s nodes rules = do
  done ← known_in s
  tables_known nodes rules

-- the keys that tables may have, after all parts are read
abbrev pub with_keys : Section → NetworkSettings → List Section → List (Option NodeSettings) → List Measure → List Section → List Rule → Result Settings ConfigFault
with_keys s network nodes places measures tables rules = do
  done ← keys_known s nodes tables
  settings_with network places measures rules

-- the tables of rules, one after another
abbrev pub with_rule_tables : Section → NetworkSettings → List Section → List (Option NodeSettings) → List Measure → List Section → Result Settings ConfigFault
with_rule_tables s network nodes places measures tables = do
  rules ← rules_from [] tables
  with_keys s network nodes places measures tables rules

-- the array of the rules
abbrev pub with_rules : Section → NetworkSettings → List Section → List (Option NodeSettings) → List Measure → Result Settings ConfigFault
with_rules s network nodes places measures = do
  tables ← rule_tables_in s
  with_rule_tables s network nodes places measures tables

-- the measures
abbrev pub with_measures : Section → NetworkSettings → List Section → List (Option NodeSettings) → Result Settings ConfigFault
with_measures s network nodes places = do
  measures ← measures_in (greatest_of network nodes) s
  with_rules s network nodes places measures

-- the chain against the greatest id
abbrev pub with_chain : Section → NetworkSettings → List Section → List (Option NodeSettings) → Result Settings ConfigFault
with_chain s network nodes places = do
  done ← chain_within s (greatest_of network nodes) network.chain
  with_measures s network nodes places

-- the tables of nodes, one after another
abbrev pub with_tables : Section → NetworkSettings → List Section → Result Settings ConfigFault
with_tables s network nodes = do
  places ← nodes_in (replicate (greatest_of network nodes) None) nodes
  with_chain s network nodes places

-- the array of the nodes
abbrev pub with_nodes : Section → NetworkSettings → Result Settings ConfigFault
with_nodes s network = do
  nodes ← node_tables_in s
  with_tables s network nodes

-- the settings at the top for all nodes
abbrev pub network_in : Section → Result NetworkSettings ConfigFault
network_in s = do
  chain ← chain_in s
  nodes ← greatest_in s
  chunk ← chunk_in s
  keys ← keys_in s
  Ok (record { chain = chain; nodes = nodes; chunk = chunk; keys = keys })

-- the settings of a text, which begin with those at the top
abbrev pub settings_in : Section → Result Settings ConfigFault
settings_in s = do
  network ← network_in s
  with_nodes s network

-- the table of a text that is one
abbrev pub document : List ℕ → Option Members
document bytes = if is_utf8 bytes then parse_document bytes else None

-- the settings of a table; without a table the fault is this line, which `toml` tells
abbrev pub settings_from : ℕ → Option Members → Result Settings ConfigFault
settings_from line None = Err (Toml line)
settings_from line (Some members) = settings_in (top members)

abbrev pub settings_of : ℕ → List ℕ → Result Settings ConfigFault
settings_of line bytes = settings_from line (document bytes)

-- the line, counted from 1, of a place in a text
abbrev pub line_at : List ℕ → ℕ → ℕ
line_at bytes place = length (filter (λ b. b == byte "\n") (take place bytes)) + 1

-- the line of a place in the text
pub record IsLineOf (bytes : List ℕ) (line : ℕ) : Type 0 where
  pub place : ℕ
  pub within : place ≤ length bytes
  pub line_is : line ≡ line_at bytes place

-- the settings of a text, or its fault; the line of a fault of TOML may be any line of the text
pub record Reads (bytes : List ℕ) (result : Result Settings ConfigFault) : Type 0 where
  pub line : ℕ
  pub in_text : IsLineOf bytes line
  pub gives : Gives result (settings_of line bytes)

-- the table of a text, or the fault that it is none
abbrev pub table_or_fault : ℕ → Option Members → Result Members ConfigFault
table_or_fault line None = Err (Toml line)
table_or_fault line (Some members) = Ok members

pub record ReadsTable (bytes : List ℕ) (result : Result (BTreeMap (String Global) TomlValue) ConfigFault) : Type 0 where
  pub line : ℕ
  pub in_text : IsLineOf bytes line
  pub gives : GivesBy table_view result (table_or_fault line (document bytes))

-- the settings at the top, within their ranges
pub record IsCommon (network : NetworkSettings) : Type 0 where
  pub chain : (1 ≤ network.chain) × (network.chain ≤ MAX_CHAIN)
  pub nodes : IfSome network.nodes (λ n. (1 ≤ n) × (n ≤ MAX_NODES))
  pub chunk : (1 ≤ network.chunk) × (network.chunk ≤ MAX_CHUNK)
  pub keys : IfSome network.keys (λ ring. length ring.accept ≤ MAX_ACCEPTED)

-- lists of the nodes that are as long as each other
pub record HavePlaces (s : Settings) : Type 0 where
  pub retired : length s.retired ≡ length s.addresses
  pub listens : length s.listens ≡ length s.addresses
  pub areas : length s.areas ≡ length s.addresses
  pub names : length s.names ≡ length s.addresses

-- texts that pass this test where they are there
abbrev pub AllPassing : (List ℕ → Bool) → List (Option (List ℕ)) → Type 0
AllPassing test texts = All (λ text. IfSome text (λ t. test t ≡ true)) texts

-- settings within their ranges
pub record IsConfig (s : Settings) : Type 0 where
  pub chain : (1 ≤ s.chain) × (s.chain ≤ MAX_CHAIN)
  pub chunk : (1 ≤ s.chunk) × (s.chunk ≤ MAX_CHUNK)
  pub keys : IfSome s.keys (λ ring. length ring.accept ≤ MAX_ACCEPTED)
  pub nodes : (1 ≤ length s.addresses) × (length s.addresses ≤ MAX_NODES)
  pub within : s.chain ≤ length s.addresses
  pub places : HavePlaces s
  pub addresses : AllPassing is_reachable s.addresses
  pub listens : AllPassing is_address s.listens
  pub names : AllPassing is_name s.names
  pub measures : All (lines.IsMeasure (length s.addresses)) s.measures
  pub rules : length s.rules ≤ MAX_RULES
