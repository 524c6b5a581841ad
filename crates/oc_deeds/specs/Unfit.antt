-- Why a configuration that was read again is not the one that a node goes by, in words.
use Rattle.std.specs.Prelude.{ℕ, List, ◌++◌, codes, decimal}
use Rattle.oc_base.specs.declared.limits.TheConstants.{MAX_SCHEDULE_BYTES}
use Rattle.oc_config.specs.FaultTexts.{fault_text}
use Rattle.oc_config.specs.Keys.{key_text}
use Rattle.oc_config.specs.declared.config_key.ConfigKey.TheVariants.{Id}
use Rattle.oc_deeds.specs.declared.unfit.Unfit.{Unfit}
use Rattle.oc_deeds.specs.declared.unfit.Unfit.TheVariants.{Long, Fault, Stranger, Restart}

abbrev pub unfit_text : Unfit → List ℕ
unfit_text Long = codes "limit bytes " ++ decimal MAX_SCHEDULE_BYTES
unfit_text (Fault fault) = codes "config: " ++ fault_text fault
unfit_text Stranger = codes "config: value " ++ key_text Id
unfit_text (Restart key) = codes "config: restart " ++ key_text key

-- the line that tells it
abbrev pub unfit_line : Unfit → List ℕ
unfit_line why = codes "overcast: " ++ unfit_text why ++ codes "\n"
