-- Faults that were given.
use Rattle.std.proofs.Common.{◌≡◌, Option, None, Err, List, refl, sym, subst}
use Rattle.oc_config.specs.Values.{Section, GivesTables}
use Rattle.oc_config.specs.declared.fault.ConfigFault.{ConfigFault}
use Rattle.oc_config.specs.declared.fault.ConfigFault.TheVariants.{Toml, Missing, Value, Repeat, Measure, Unknown, Memory}

same_fault : (fault : ConfigFault) → GivesTables (Err fault) None fault
same_fault (Toml line) = refl
same_fault (Missing place key) = refl
same_fault (Value place key) = refl
same_fault (Repeat place id) = refl
same_fault (Measure line why) = refl
same_fault (Unknown place key) = refl
same_fault Memory = tt

-- where there are no tables, their fault is given
pub no_tables : (tables : Option (List Section)) (fault : ConfigFault) → tables ≡ None → GivesTables (Err fault) tables fault
no_tables tables fault none = subst (λ (o : Option (List Section)). GivesTables (Err fault) o fault) (sym none) (same_fault fault)
