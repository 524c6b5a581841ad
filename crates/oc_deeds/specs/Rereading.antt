-- What a node does with its configuration when it was read again.
use Rattle.std.specs.Prelude.{◌≡◌, ℕ, ◌-◌, Bool, true, false, ◌&&◌, ◌==◌, not, nat_lt, if◌then◌else◌, Option, Some, None, is_some, Result, Ok, Err, List, [], ◌∷◌, length, filter, slice_index_or}
use Rattle.std.specs.Option.{option_map}
use Rattle.std.specs.Str.{bytes_eq}
use Rattle.oc_base.specs.declared.limits.TheConstants.{MAX_SCHEDULE_BYTES}
use Rattle.oc_config.specs.Changes.{config_change, has_measure}
use Rattle.oc_config.specs.Reading.{IsConfig, Reads as IsReadAs}
use Rattle.oc_config.specs.Settings.{Settings}
use Rattle.oc_config.specs.declared.change.Running.{Running as Changing}
use Rattle.oc_config.specs.declared.config_key.ConfigKey.{ConfigKey}
use Rattle.oc_config.specs.declared.fault.ConfigFault.{ConfigFault}
use Rattle.oc_config.specs.declared.fault.ConfigFault.TheVariants.{Memory}
use Rattle.oc_link.specs.declared.look.Look.{Look}
use Rattle.oc_link.specs.declared.look.Look.TheVariants as looks
use Rattle.oc_model.specs.declared.input.Input.{Input}
use Rattle.oc_model.specs.declared.input.Input.TheVariants.{Measured}
use Rattle.oc_probe.specs.Turns.{peers_of}
use Rattle.oc_probe.specs.declared.probing.Probing.{Probing}
use Rattle.oc_updown.specs.declared.measure_lines.Measure.{Measure}
use Rattle.oc_deeds.specs.Deeds.{Keeps, Looks, Rereads, Running, Setting}
use Rattle.oc_deeds.specs.Parts.{Part, nothing, one, ◌>>◌}
use Rattle.oc_deeds.specs.Records.{is_record}
use Rattle.oc_deeds.specs.Telling.{takes_ahead}
use Rattle.oc_deeds.specs.declared.reread.Reread.{Reread}
use Rattle.oc_deeds.specs.declared.reread.Reread.TheVariants as rereads
use Rattle.oc_deeds.specs.declared.unfit.Unfit.{Unfit}
use Rattle.oc_deeds.specs.declared.unfit.Unfit.TheVariants.{Long, Fault, Stranger, Restart}

-- What a look gives

-- what was read is a configuration, or has a fault, and there was memory to read it
abbrev pub MeansResult : Result Settings ConfigFault → Reread → Type 0
MeansResult (Ok settings) r = r ≡ rereads.Config settings
MeansResult (Err Memory) r = ⊥
MeansResult (Err fault) r = r ≡ rereads.Unfit (Fault fault)

abbrev pub MeansText : Bool → List ℕ → Reread → Type 0
MeansText true bytes r = r ≡ rereads.Unfit Long
MeansText false bytes r = (result : Result Settings ConfigFault) × IsReadAs bytes result × MeansResult result r

-- these are the bytes of the last reading
abbrev pub is_last : Option (List ℕ) → List ℕ → Bool
is_last None bytes = false
is_last (Some last) bytes = bytes_eq last bytes

-- which are passed over
abbrev pub MeansNew : Bool → List ℕ → Reread → Type 0
MeansNew true bytes r = r ≡ rereads.Nothing
MeansNew false bytes r = MeansText (nat_lt MAX_SCHEDULE_BYTES (length bytes)) bytes r

-- What a look is to one who read these bytes last.
abbrev pub MeansLook : Option (List ℕ) → Look → Reread → Type 0
MeansLook last looks.Nothing r = r ≡ rereads.Nothing
MeansLook last looks.Failed r = r ≡ rereads.Nothing
MeansLook last (looks.Text bytes) r = MeansNew (is_last last bytes) bytes r

-- the bytes of the last reading after a look; a reading that failed has none
abbrev pub last_read : Look → Option (List ℕ) → Option (List ℕ)
last_read looks.Nothing last = last
last_read looks.Failed last = None
last_read (looks.Text bytes) last = Some bytes

abbrev pub IsLawfulReread : Reread → Type 0
IsLawfulReread (rereads.Config settings) = IsConfig settings
IsLawfulReread r = Unit {0}

-- What a node goes by then

-- the node has an address
abbrev pub is_placed : ℕ → Settings → Bool
is_placed me new = is_some (slice_index_or new.addresses (me - 1) None)

abbrev pub or_restart : Result Settings ConfigKey → Result Settings Unfit
or_restart (Ok new) = Ok new
or_restart (Err key) = Err (Restart key)

-- the node that runs: one that writes a record keeps the greatest id and the areas that it began with
abbrev pub changing : Setting → Changing
changing s = record { me = s.me; recorded = is_record s.log }

-- The new configuration, or why the node goes on by the old one: what a start would refuse, too, and then what needs a new start.
abbrev pub fitting_for : Changing → Settings → Settings → Result Settings Unfit
fitting_for running old new = if is_placed running.me new then or_restart (config_change running old new) else Err Stranger

abbrev pub fitting : Setting → Settings → Settings → Result Settings Unfit
fitting s old new = fitting_for (changing s) old new

-- the node's own measures that the old configuration had not
abbrev pub is_fresh : ℕ → List Measure → Measure → Bool
is_fresh me old m = m.from == me && not (has_measure m old)

abbrev pub fresh : ℕ → Settings → Settings → List Measure
fresh me old new = filter (is_fresh me old.measures) new.measures

-- the input that a measure is
abbrev pub measured_by : Measure → Input
measured_by m = Measured m.peer m.rate m.hops

-- each of these measures is taken
unfoldable pub takes_measures : List Measure → Part
takes_measures [] = nothing
takes_measures (m ∷ ms) = takes_ahead (measured_by m) >> takes_measures ms

-- the new one is gone by, and its fresh measures are taken; or it is told why not
abbrev pub settles : Result Settings Unfit → Settings → Part
settles (Err why) old s a = Keeps why ∷ []
settles (Ok new) old s a = (one (Rereads new) >> takes_measures (fresh s.me old new)) s a

abbrev pub goes_by : Reread → Part
goes_by rereads.Nothing s a = []
goes_by (rereads.Unfit why) s a = Keeps why ∷ []
goes_by (rereads.Config new) s a = settles (fitting s a.config new) a.config s a

-- The file is looked at, and what it gives is gone by.
abbrev pub looks_again : Look → Reread → Part
looks_again look r = one (Looks look) >> goes_by r

-- What is probed then

-- the peers that have an address by now, from the first one on
abbrev pub rotated_to : ℕ → Settings → Probing → Probing
rotated_to me new p = record p { rotation = record p.rotation { coming = peers_of me new.addresses } }

abbrev pub rerouted : ℕ → Result Settings Unfit → Option Probing → Option Probing
rerouted me (Ok new) p = option_map (rotated_to me new) p
rerouted me (Err why) p = p

abbrev pub probing_by : Setting → Settings → Reread → Option Probing → Option Probing
probing_by s old (rereads.Config new) p = rerouted s.me (fitting s old new) p
probing_by s old r p = p
