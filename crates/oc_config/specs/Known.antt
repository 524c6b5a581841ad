-- Keys that no table can have.
use Rattle.std.specs.Prelude.{ℕ, if◌then◌else◌, Option, Some, None, Result, Ok, Err, List, [], ◌∷◌}
use Rattle.toml.specs.Data.{Members, no_members, member}
use Rattle.oc_base.specs.Steps.{◌>>=◌}
use Rattle.oc_config.specs.Keys.{is_known, shown_key}
use Rattle.oc_config.specs.Values.{Section}
use Rattle.oc_config.specs.declared.fault.ConfigFault.{ConfigFault}
use Rattle.oc_config.specs.declared.fault.ConfigFault.TheVariants.{Unknown}
use Rattle.oc_config.specs.declared.section_name.SectionName.{SectionName}

-- the keys of a table, in their order, which is that of their bytes
abbrev pub keys_of : Members → List (List ℕ)
keys_of no_members = []
keys_of (member key d rest) = key ∷ keys_of rest

-- the first of these keys that the table at this place cannot have
abbrev pub unknown_key : SectionName → List (List ℕ) → Option (List ℕ)
unknown_key place [] = None
unknown_key place (key ∷ rest) = if is_known place key then unknown_key place rest else Some key

-- success where there is no such key, else the fault of the first
abbrev pub no_unknown : SectionName → Option (List ℕ) → Result (Unit {0}) ConfigFault
no_unknown place None = Ok tt
no_unknown place (Some key) = Err (Unknown place (shown_key key))

abbrev pub known_in : Section → Result (Unit {0}) ConfigFault
known_in s = no_unknown s.place (unknown_key s.place (keys_of s.members))

-- success where no table has such a key, else the first fault of these tables, in their order
abbrev pub all_known : List Section → Result (Unit {0}) ConfigFault
all_known [] = Ok tt
all_known (s ∷ rest) = do
  done ← known_in s
  all_known rest
