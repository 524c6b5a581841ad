-- The changes of its configuration that a node takes over while it runs.
use Rattle.std.specs.Prelude.{◌≡◌, ℕ, ◌≤◌, Bool, true, false, not, ◌-◌, ◌&&◌, ◌==◌, nat_lt, if◌then◌else◌, Option, Some, None, is_some, Result, Ok, Err, List, length, slice_index_or}
use Rattle.std.specs.List.{list_any}
use Rattle.std.specs.Str.{bytes_eq}
use Rattle.oc_updown.specs.declared.measure_lines.Measure.{Measure}
use Rattle.oc_config.specs.Settings.{Settings}
use Rattle.oc_config.specs.declared.change.Running.{Running}
use Rattle.oc_config.specs.declared.config_key.ConfigKey.{ConfigKey}
use Rattle.oc_config.specs.declared.config_key.ConfigKey.TheVariants.{Nodes, Chain, Chunk, NodeKey, Listen, Area}

-- a change of the greatest id that a node can take over: growth, and none where the node writes a record, which has one header
abbrev pub keeps_nodes : Running → ℕ → ℕ → Bool
keeps_nodes r old new = if r.recorded then old == new else not (nat_lt new old)

-- presence of both, or of neither
abbrev pub same_presence : {A : Type 0} → Option A → Option A → Bool
same_presence None None = true
same_presence (Some x) (Some y) = true
same_presence x y = false

abbrev pub same_text : Option (List ℕ) → Option (List ℕ) → Bool
same_text None None = true
same_text (Some x) (Some y) = bytes_eq x y
same_text x y = false

-- the address at which a node listens
abbrev pub listen_at : ℕ → Settings → Option (List ℕ)
listen_at id s = slice_index_or s.listens (id - 1) None

-- a change of the areas that a node can take over: none where the node writes a record, whose header has the areas too
abbrev pub keeps_areas : Running → List ℕ → List ℕ → Bool
keeps_areas r old new = if r.recorded then bytes_eq old new else true

-- the first key whose change needs a new start of the node
abbrev pub restart_key : Running → Settings → Settings → Option ConfigKey
restart_key r old new =
    if not (keeps_nodes r (length old.addresses) (length new.addresses)) then Some Nodes
    else if not (old.chain == new.chain) then Some Chain
    else if not (old.chunk == new.chunk) then Some Chunk
    else if not (same_presence old.keys new.keys) then Some NodeKey
    else if not (same_text (listen_at r.me old) (listen_at r.me new)) then Some Listen
    else if not (keeps_areas r old.areas new.areas) then Some Area
    else None

-- all of the new settings, or the key that needs a new start
abbrev pub taken_over : Settings → Option ConfigKey → Result Settings ConfigKey
taken_over new None = Ok new
taken_over new (Some key) = Err key

abbrev pub config_change : Running → Settings → Settings → Result Settings ConfigKey
config_change r old new = taken_over new (restart_key r old new)

-- parts that stay as they were where settings are taken over: all that a network shares, except that more nodes may come; the address at which
-- the node listens; and, where the node writes a record, all of the record's header
pub record Stays (r : Running) (old new : Settings) : Type 0 where
  pub chain : old.chain ≡ new.chain
  pub chunk : old.chunk ≡ new.chunk
  pub nodes : length old.addresses ≤ length new.addresses
  pub keyed : same_presence old.keys new.keys ≡ true
  pub listen : listen_at r.me old ≡ listen_at r.me new
  pub recorded : r.recorded ≡ true → (length old.addresses ≡ length new.addresses) × (old.areas ≡ new.areas)

-- equality of two measures
abbrev pub same_measure : Measure → Measure → Bool
same_measure a b = (a.from == b.from && a.peer == b.peer) && (a.rate == b.rate && a.hops == b.hops)

-- settings with this measure
abbrev pub has_measure : Measure → List Measure → Bool
has_measure m measures = list_any (same_measure m) measures
