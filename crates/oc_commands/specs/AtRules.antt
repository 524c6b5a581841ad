-- The effect of `rules` at each of its ends, and the required status.
use Rattle.std.specs.Prelude.{◌≡◌, ℕ, ◌<◌, ◌⊎◌, Result, Ok, Err, List, [], length}
use Rattle.oc_base.specs.declared.limits.TheConstants.{MAX_SCHEDULE_BYTES}
use Rattle.oc_config.specs.Reading.{settings_of}
use Rattle.oc_config.specs.Settings.{Settings}
use Rattle.oc_config.specs.declared.fault.ConfigFault.{ConfigFault}
use Rattle.oc_config.specs.declared.fault.ConfigFault.TheVariants as faults
use Rattle.oc_policy.specs.declared.rule.Rule.{Rule}
use Rattle.oc_replay.specs.Pieces.{SomeFront}
use Rattle.oc_policy.specs.Listing.{IsListing}
use Rattle.oc_commands.specs.AtConfig.{ReadsConfig}
use Rattle.oc_commands.specs.Outside.{Input, Output}
use Rattle.oc_commands.specs.declared.listing.RulesEnd.{RulesEnd}
use Rattle.oc_commands.specs.declared.listing.RulesEnd.TheVariants.{Done, Config, Sink, Memory}

-- the lines of these rules were written, or a part and then the output failed, or nothing
abbrev pub WritesRules : Output → List Rule → RulesEnd → Type 0
WritesRules output rules Done = (text : List ℕ) × IsListing rules text × output.written text
WritesRules output rules Sink = (text : List ℕ) × IsListing rules text × SomeFront text output.cut_off
WritesRules output rules Memory = output.written []
WritesRules output rules (Config end) = ⊥

-- the effect of this end
abbrev pub HappenedAtRules : Input → Output → RulesEnd → Type 0
HappenedAtRules input output (Config end) = ReadsConfig input (Err end) × output.written []
HappenedAtRules input output end = (settings : Settings) × ReadsConfig input (Ok settings) × WritesRules output settings.rules end

-- the status for the settings in a text
abbrev pub status_of_settings : Result Settings ConfigFault → ℕ
status_of_settings (Ok settings) = 0
status_of_settings (Err faults.Memory) = 4
status_of_settings (Err fault) = 3

-- the status for these bytes; the line that `toml` names for a text that it refuses makes no
-- difference
abbrev pub status_of_text : List ℕ → ℕ
status_of_text bytes = status_of_settings (settings_of 1 bytes)

-- these bytes came, which are the whole input; or more than a configuration may have
pub record HasConfigStatus {S : Type 0} (gives : S → List ℕ → S → Type 0) (ended : S → Type 0) (old new : S) (status : ℕ) : Type 0 where
  pub bytes : List ℕ
  pub came : gives old bytes new
  pub status_is : (ended new × (status ≡ status_of_text bytes)) ⊎ ((MAX_SCHEDULE_BYTES < length bytes) × (status ≡ 5))
