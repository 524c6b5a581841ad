-- The effect of `check` for a node of a configuration at each of its ends, and the required status.
use Rattle.std.specs.Prelude.{◌≡◌, ℕ, ◌<◌, ◌⊎◌, Result, Ok, Err, List, [], length, ⊤}
use Rattle.oc_base.specs.Lawful.{IsNode}
use Rattle.oc_base.specs.declared.limits.TheConstants.{MAX_SCHEDULE_BYTES}
use Rattle.oc_config.specs.Reading.{settings_of}
use Rattle.oc_config.specs.Settings.{Settings}
use Rattle.oc_config.specs.declared.fault.ConfigFault.{ConfigFault}
use Rattle.oc_io.specs.DiskView.{DiskView}
use Rattle.oc_keep.specs.Files.{Disks}
use Rattle.oc_keep.specs.Promises.{HoldFiles}
use Rattle.oc_commands.specs.AtCheck.{HappenedAtCheck, sizes_in}
use Rattle.oc_commands.specs.AtConfig.{ReadsConfig}
use Rattle.oc_commands.specs.AtRules.{status_of_settings}
use Rattle.oc_commands.specs.Outside.{Input, OnFiles, Output}
use Rattle.oc_commands.specs.declared.checking.ConfiguredEnd.{ConfiguredEnd}
use Rattle.oc_commands.specs.declared.checking.ConfiguredEnd.TheVariants.{Config, Stranger, Checked}

-- no node of the configuration has this id, or its files were read
abbrev pub ChecksOne : OnFiles → Output → Settings → ℕ → ConfiguredEnd → Type 0
ChecksOne files output s id Stranger = (IsNode (length s.addresses) id → ⊥) × output.written []
ChecksOne files output s id (Checked end) = IsNode (length s.addresses) id × HappenedAtCheck files output (sizes_in s) id end
ChecksOne files output s id (Config end) = ⊥

-- the effect of this end
abbrev pub HappenedAtConfigured : Input → OnFiles → Output → ℕ → ConfiguredEnd → Type 0
HappenedAtConfigured input files output id (Config end) = ReadsConfig input (Err end) × output.written []
HappenedAtConfigured input files output id end = (s : Settings) × ReadsConfig input (Ok s) × ChecksOne files output s id end

-- a statement that holds unless the files were read
abbrev pub UnlessChecked : ConfiguredEnd → Type 0 → Type 0
UnlessChecked (Checked end) so = ⊤
UnlessChecked end so = so

-- The status that has to come

-- the status is 3 for a configuration without a node of this id; otherwise, over the files of a
-- node, it is 0
abbrev pub IsShownOver : {D : Type 0} → (D → DiskView) → Disks D → Settings → ℕ → ℕ → Type 0
IsShownOver view d s id status =
    ((IsNode (length s.addresses) id → ⊥) × (status ≡ 3)) ⊎ (IsNode (length s.addresses) id × (HoldFiles view (length s.addresses) d → status ≡ 0))

-- the status for a text; the line that `toml` names makes no difference
abbrev pub IsShownOf : {D : Type 0} → (D → DiskView) → Disks D → ℕ → Result Settings ConfigFault → ℕ → Type 0
IsShownOf view d id (Ok s) status = IsShownOver view d s id status
IsShownOf view d id (Err fault) status = status ≡ status_of_settings (Err fault)

-- these bytes came, which are the whole input; or more than a configuration may have
pub record HasShownStatus {S D : Type 0} (gives : S → List ℕ → S → Type 0) (ended : S → Type 0) (view : D → DiskView) (d : Disks D) (id : ℕ) (old new : S) (status : ℕ) : Type 0 where
  pub bytes : List ℕ
  pub came : gives old bytes new
  pub status_is : (ended new × IsShownOf view d id (settings_of 1 bytes) status) ⊎ ((MAX_SCHEDULE_BYTES < length bytes) × (status ≡ 5))
