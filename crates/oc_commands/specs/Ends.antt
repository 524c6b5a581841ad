-- The status of each end.
use Rattle.std.specs.Prelude.{Bool, true, false}
use Rattle.oc_config.specs.declared.fault.ConfigFault.{ConfigFault}
use Rattle.oc_config.specs.declared.fault.ConfigFault.TheVariants as faults
use Rattle.oc_client.specs.declared.end.GetEnd.{GetEnd}
use Rattle.oc_client.specs.declared.end.GetEnd.TheVariants as gets
use Rattle.oc_client.specs.declared.put_end.PutEnd.{PutEnd}
use Rattle.oc_client.specs.declared.put_end.PutEnd.TheVariants as puts
use Rattle.oc_keep.specs.FileError.{FileError}
use Rattle.oc_keep.specs.FileError.TheVariants as causes
use Rattle.oc_keep.specs.Errors.{cause_of}
use Rattle.oc_keep.specs.declared.errors.KeepLoad.{KeepLoad}
use Rattle.oc_merge.specs.declared.merge_end.MergeEnd.TheVariants as merges
use Rattle.oc_replay.specs.declared.end.ReplayEnd.{ReplayEnd}
use Rattle.oc_replay.specs.declared.end.ReplayEnd.TheVariants as replays
use Rattle.oc_service.specs.declared.running.NodeEnd.{NodeEnd}
use Rattle.oc_service.specs.declared.running.NodeEnd.TheVariants as nodes
use Rattle.oc_deeds.specs.declared.ends.TurnEnd.{TurnEnd}
use Rattle.oc_deeds.specs.declared.ends.TurnEnd.TheVariants as turns
use Rattle.oc_commands.specs.declared.checking.CheckEnd.{CheckEnd}
use Rattle.oc_commands.specs.declared.checking.CheckEnd.TheVariants as checks
use Rattle.oc_commands.specs.declared.checking.ConfiguredEnd.{ConfiguredEnd}
use Rattle.oc_commands.specs.declared.checking.ConfiguredEnd.TheVariants as configured
use Rattle.oc_commands.specs.declared.configuring.ConfigEnd.{ConfigEnd}
use Rattle.oc_commands.specs.declared.configuring.ConfigEnd.TheVariants as configs
use Rattle.oc_commands.specs.declared.ending.End.{End}
use Rattle.oc_commands.specs.declared.ending.End.TheVariants.{Helped, HelpFailed, Versioned, VersionFailed, Misused, NoMemory, Replayed, Generated, Merged, Listed, Checked, CheckedConfigured, NoToken, Got, Published, Served}
use Rattle.oc_commands.specs.declared.generating.GenEnd.{GenEnd}
use Rattle.oc_commands.specs.declared.generating.GenEnd.TheVariants as gens
use Rattle.oc_commands.specs.declared.listing.RulesEnd.{RulesEnd}
use Rattle.oc_commands.specs.declared.listing.RulesEnd.TheVariants as lists
use Rattle.oc_commands.specs.declared.merging.RecordsEnd.{RecordsEnd}
use Rattle.oc_commands.specs.declared.merging.RecordsEnd.TheVariants as records
use Rattle.oc_commands.specs.declared.serving.ServiceEnd.{ServiceEnd}
use Rattle.oc_commands.specs.declared.serving.ServiceEnd.TheVariants as services
use Rattle.oc_commands.specs.declared.token.TokenEnd.{TokenEnd}
use Rattle.oc_commands.specs.declared.token.TokenEnd.TheVariants as tokens
use Rattle.oc_words.specs.declared.status.Status.{Status}
use Rattle.oc_words.specs.declared.status.Status.TheVariants as statuses

abbrev pub status_of_replay : ReplayEnd → Status
status_of_replay replays.Done = statuses.Done
status_of_replay (replays.Text line why) = statuses.BadText
status_of_replay (replays.Limit what) = statuses.Limit
status_of_replay replays.Source = statuses.Failed
status_of_replay replays.Sink = statuses.Failed
status_of_replay replays.Memory = statuses.Memory

abbrev pub status_of_gen : GenEnd → Status
status_of_gen gens.Done = statuses.Done
status_of_gen gens.Sink = statuses.Failed
status_of_gen gens.Memory = statuses.Memory

abbrev pub status_of_records : RecordsEnd → Status
status_of_records (records.Merged merges.Whole) = statuses.Done
status_of_records (records.Merged (merges.State line)) = statuses.BadText
status_of_records (records.Merged (merges.Unsent line)) = statuses.BadText
status_of_records (records.Text line cause) = statuses.BadText
status_of_records (records.Limit most) = statuses.Limit
status_of_records records.Source = statuses.Failed
status_of_records records.Sink = statuses.Failed
status_of_records records.Memory = statuses.Memory

abbrev pub status_of_fault : ConfigFault → Status
status_of_fault faults.Memory = statuses.Memory
status_of_fault fault = statuses.BadText

abbrev pub status_of_config : ConfigEnd → Status
status_of_config configs.Source = statuses.Failed
status_of_config configs.Long = statuses.Limit
status_of_config (configs.Fault fault) = status_of_fault fault

abbrev pub status_of_rules : RulesEnd → Status
status_of_rules lists.Done = statuses.Done
status_of_rules (lists.Config end) = status_of_config end
status_of_rules lists.Sink = statuses.Failed
status_of_rules lists.Memory = statuses.Memory

abbrev pub status_of_cause : FileError → Status
status_of_cause causes.Disk = statuses.Failed
status_of_cause causes.NotJournal = statuses.BadText
status_of_cause (causes.BadFrame number) = statuses.BadText
status_of_cause causes.Memory = statuses.Memory

abbrev pub status_of_load : KeepLoad → Status
status_of_load error = status_of_cause (cause_of error)

abbrev pub status_of_check : CheckEnd → Status
status_of_check checks.Done = statuses.Done
status_of_check (checks.Load error) = status_of_load error
status_of_check checks.Sink = statuses.Failed

abbrev pub status_of_configured : ConfiguredEnd → Status
status_of_configured (configured.Config end) = status_of_config end
status_of_configured configured.Stranger = statuses.BadText
status_of_configured (configured.Checked end) = status_of_check end

abbrev pub status_of_token : TokenEnd → Status
status_of_token tokens.Source = statuses.Failed
status_of_token tokens.Long = statuses.Limit
status_of_token tokens.Fault = statuses.BadText
status_of_token tokens.Memory = statuses.Memory

abbrev pub status_of_get : GetEnd → Status
status_of_get gets.Done = statuses.Done
status_of_get gets.BadUrl = statuses.NotGot
status_of_get (gets.Refused status) = statuses.NotGot
status_of_get gets.Redirects = statuses.NotGot
status_of_get gets.Reply = statuses.NotGot
status_of_get gets.Link = statuses.Failed
status_of_get gets.Sink = statuses.Failed
status_of_get gets.Memory = statuses.Memory

abbrev pub status_of_put : PutEnd → Status
status_of_put puts.Done = statuses.Done
status_of_put puts.BadUrl = statuses.NotGot
status_of_put (puts.Refused status) = statuses.NotGot
status_of_put (puts.Length length) = statuses.NotGot
status_of_put puts.Short = statuses.NotGot
status_of_put puts.Reply = statuses.NotGot
status_of_put puts.Link = statuses.Failed
status_of_put puts.Input = statuses.Failed
status_of_put puts.Memory = statuses.Memory

abbrev pub status_of_turns : TurnEnd → Status
status_of_turns turns.Served = statuses.Done
status_of_turns turns.Link = statuses.Failed
status_of_turns turns.Disk = statuses.Failed
status_of_turns turns.Full = statuses.Limit
status_of_turns turns.Sink = statuses.Failed
status_of_turns turns.Memory = statuses.Memory

abbrev pub status_of_run : NodeEnd → Status
status_of_run (nodes.Load error) = status_of_load error
status_of_run (nodes.Turned end) = status_of_turns end

abbrev pub status_of_service : ServiceEnd → Status
status_of_service (services.Config end) = status_of_config end
status_of_service services.Stranger = statuses.BadText
status_of_service (services.Ran end) = status_of_run end

-- the status of each end
abbrev pub status_of : End → Status
status_of Helped = statuses.Done
status_of HelpFailed = statuses.Failed
status_of Versioned = statuses.Done
status_of VersionFailed = statuses.Failed
status_of Misused = statuses.Usage
status_of NoMemory = statuses.Memory
status_of (Replayed large end) = status_of_replay end
status_of (Generated end) = status_of_gen end
status_of (Merged end) = status_of_records end
status_of (Listed end) = status_of_rules end
status_of (Checked end) = status_of_check end
status_of (CheckedConfigured end) = status_of_configured end
status_of (NoToken end) = status_of_token end
status_of (Got end) = status_of_get end
status_of (Published end) = status_of_put end
status_of (Served end) = status_of_service end

-- whether the run ended because a client has no token
abbrev pub lacks_token : End → Bool
lacks_token (NoToken end) = true
lacks_token end = false
