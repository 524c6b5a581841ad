-- The values of a table.
use Rattle.std.specs.Prelude.{◌≡◌, ℕ, ℤ, pos, ◌+◌, ◌&&◌, nat_le, if◌then◌else◌, Option, Some, None, Result, Ok, Err, ok_or, Vec, List, [], ◌∷◌, map}
use Rattle.std.specs.declared.alloc.Global.{Global}
use Rattle.toml.specs.Data.{Data, Items, no_items, item, Members, get_member, as_integer, as_array, as_table}
use Rattle.toml.specs.View.{table_view}
use Rattle.oc_base.specs.Steps.{◌>>=◌}
use Rattle.oc_base.specs.declared.limits.TheConstants.{MAX_AREA}
use Rattle.oc_updown.specs.declared.measure_fault.MeasureFault.{MeasureFault}
use Rattle.oc_updown.specs.declared.measure_fault.MeasureFault.TheVariants as measures
use Rattle.oc_config.specs.declared.fault.ConfigFault.{ConfigFault}
use Rattle.oc_config.specs.declared.fault.ConfigFault.TheVariants.{Missing, Value, Measure, Memory}
use Rattle.oc_config.specs.declared.config_key.ConfigKey.{ConfigKey}
use Rattle.oc_config.specs.declared.config_key.ConfigKey.TheVariants.{Area}
use Rattle.oc_config.specs.declared.section_name.Kind.{Kind}
use Rattle.oc_config.specs.declared.section_name.SectionName.{SectionName}
use Rattle.oc_config.specs.declared.section_name.SectionName.TheVariants as places
use Rattle.oc_config.specs.declared.section.Section.{Section as CodeSection}
use Rattle.oc_config.specs.Keys.{key_text, place_in}

-- a table of the text, and its place
pub record Section : Type 0 where
  pub place : SectionName
  pub members : Members

-- the table of the whole text
abbrev pub top : Members → Section
top members = record { place = places.Top; members = members }

-- the table of this number among those of a kind
abbrev pub section_in : Kind → ℕ → Members → Section
section_in kind number members = record { place = place_in kind number; members = members }

-- the value of a key
abbrev pub value_in : ConfigKey → Section → Option Data
value_in key s = get_member (key_text key) s.members

-- the value of a key that has to be there
abbrev pub required : ConfigKey → Section → Result Data ConfigFault
required key s = ok_or (value_in key s) (Missing s.place key)

-- the value of a key, as it is read, or its fault
abbrev pub read_as : {A : Type 0} → ConfigKey → Section → Option A → Result A ConfigFault
read_as key s o = ok_or o (Value s.place key)

-- the value of a key, as it is read, if the key is there
abbrev pub read_if : {A : Type 0} → ConfigKey → Section → (Data → Option A) → Option Data → Result (Option A) ConfigFault
read_if key s read None = Ok None
read_if key s read (Some d) = do
  x ← read_as key s (read d)
  Ok (Some x)

-- a number from the least to the most
abbrev pub within : ℕ → ℕ → Option ℤ → Option ℕ
within least most (Some (pos n)) = if nat_le least n && nat_le n most then Some n else None
within least most o = None

abbrev pub whole_in : ℕ → ℕ → Data → Option ℕ
whole_in least most d = within least most (as_integer d)

-- the area of a table, if it has one
abbrev pub area_in : Section → Result (Option ℕ) ConfigFault
area_in s = read_if Area s (whole_in 0 MAX_AREA) (value_in Area s)

-- the number of items
abbrev pub count_items : Items → ℕ
count_items no_items = 0
count_items (item d ds) = count_items ds + 1

-- a table before others
abbrev pub table_before : Kind → ℕ → Option Members → Option (List Section) → Option (List Section)
table_before kind number (Some first) (Some others) = Some (section_in kind number first ∷ others)
table_before kind number first others = None

-- the tables of a kind from this number on, where each item is one
abbrev pub all_tables : Kind → ℕ → Items → Option (List Section)
all_tables kind number no_items = Some []
all_tables kind number (item d ds) = table_before kind number (as_table d) (all_tables kind (number + 1) ds)

-- the tables of an array that has at least `least` and at most `most` of them
abbrev pub tables_of : Kind → ℕ → ℕ → Option Items → Option (List Section)
tables_of kind least most (Some ds) = if nat_le least (count_items ds) && nat_le (count_items ds) most then all_tables kind 1 ds else None
tables_of kind least most None = None

abbrev pub tables_in : Kind → ℕ → ℕ → Data → Option (List Section)
tables_in kind least most d = tables_of kind least most (as_array d)

-- the result of a call, seen by `view`, which is the one that is said, unless memory runs out
abbrev pub GivesBy : {X A : Type 0} → (X → A) → Result X ConfigFault → Result A ConfigFault → Type 0
GivesBy view (Ok x) said = said ≡ Ok (view x)
GivesBy view (Err Memory) said = Unit {0}
GivesBy view (Err fault) said = said ≡ Err fault

-- the result of a call, which is the one that is said, unless memory runs out
abbrev pub Gives : {A : Type 0} → Result A ConfigFault → Result A ConfigFault → Type 0
Gives = GivesBy (λ x. x)

-- the table that code refers to
abbrev pub section_of : CodeSection → Section
section_of s = record { place = s.place; members = table_view s.table.now }

abbrev pub sections_of : List CodeSection → List Section
sections_of ss = map section_of ss

-- the tables that were found, or the fault where there are none
abbrev pub GivesTables : Result (Vec CodeSection Global) ConfigFault → Option (List Section) → ConfigFault → Type 0
GivesTables result tables fault = GivesBy (λ v. sections_of v.items) result (ok_or tables fault)

-- a fault of measure lines
abbrev pub fault_of : MeasureFault → ConfigFault
fault_of (measures.Line line why) = Measure line why
fault_of measures.Memory = Memory
