-- The result of reading the input as a configuration.
use Rattle.std.specs.Prelude.{ℕ, Result, Ok, Err, List}
use Rattle.oc_config.specs.Reading.{Reads}
use Rattle.oc_config.specs.Settings.{Settings}
use Rattle.oc_config.specs.declared.fault.ConfigFault.TheVariants as faults
use Rattle.oc_commands.specs.Outside.{Input}
use Rattle.oc_commands.specs.declared.configuring.ConfigEnd.{ConfigEnd}
use Rattle.oc_commands.specs.declared.configuring.Configured.{Configured}
use Rattle.oc_commands.specs.declared.configuring.ConfigEnd.TheVariants.{Source, Long, Fault}

-- the bytes have these settings, or this first fault
abbrev pub GivesConfig : Result Settings ConfigEnd → List ℕ → Type 0
GivesConfig (Ok settings) bytes = Reads bytes (Ok settings)
GivesConfig (Err (Fault fault)) bytes = Reads bytes (Err fault)
GivesConfig (Err Source) bytes = ⊥
GivesConfig (Err Long) bytes = ⊥

-- the whole input came with this meaning; or it failed, or is too long, or memory ran out
abbrev pub ReadsConfig : Input → Result Settings ConfigEnd → Type 0
ReadsConfig input (Err Source) = input.failed
ReadsConfig input (Err Long) = input.long
ReadsConfig input (Err (Fault faults.Memory)) = input.came
ReadsConfig input read = (bytes : List ℕ) × input.whole bytes × GivesConfig read bytes

-- the same, with the bytes of the whole input
abbrev pub ReadsConfigured : Input → Result Configured ConfigEnd → Type 0
ReadsConfigured input (Ok c) = input.whole c.text × GivesConfig (Ok c.config) c.text
ReadsConfigured input (Err end) = ReadsConfig input (Err end)
