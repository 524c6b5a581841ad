-- The faults of a configuration, in words.
use Rattle.std.specs.Prelude.{ℕ, List, [], ◌++◌, codes, decimal}
use Rattle.oc_base.specs.Why.{why_text}
use Rattle.oc_config.specs.Keys.{key_text}
use Rattle.oc_config.specs.declared.fault.ConfigFault.{ConfigFault}
use Rattle.oc_config.specs.declared.fault.ConfigFault.TheVariants.{Toml, Missing, Value, Repeat, Measure, Unknown, Memory}
use Rattle.oc_config.specs.declared.section_name.SectionName.{SectionName}
use Rattle.oc_config.specs.declared.section_name.SectionName.TheVariants as places

-- the table that a fault is in, where it is not the whole text
abbrev pub place_text : SectionName → List ℕ
place_text places.Top = []
place_text (places.Node number) = codes "node " ++ decimal number ++ codes ": "
place_text (places.Rule number) = codes "rule " ++ decimal number ++ codes ": "

abbrev pub fault_text : ConfigFault → List ℕ
fault_text (Toml line) = codes "toml line " ++ decimal line
fault_text (Missing place key) = place_text place ++ codes "missing " ++ key_text key
fault_text (Value place key) = place_text place ++ codes "value " ++ key_text key
fault_text (Repeat place id) = place_text place ++ codes "repeat " ++ decimal id
fault_text (Measure line why) = codes "measure " ++ decimal line ++ codes ": " ++ why_text why
fault_text (Unknown place key) = place_text place ++ codes "unknown " ++ key
fault_text Memory = codes "out of memory"
