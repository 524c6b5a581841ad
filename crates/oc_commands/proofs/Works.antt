-- The effect of an end leaves no other end to `--help`, to `--version`, to `gen`, to `replay`, to
-- `merge` and to `rules` than their work, or lack of memory.
use Rattle.std.proofs.Common.{◌≡◌, ℕ, ◌≤◌, ◌<◌, ◌⊎◌, Bool, cond, List, length, Option, Some, None, Result, Ok, Err, inl, inr, refl, sym, subst, ap}
use Rattle.std.specs.Str.Lines.{lines}
use Rattle.std.proofs.lemmas.Bool.{lt-ltb}
use Rattle.oc_config.specs.declared.fault.ConfigFault.TheVariants as config_faults
use Rattle.oc_io.specs.Faults.{Rose}
use Rattle.oc_merge.specs.Reading.{records_of}
use Rattle.oc_merge.specs.Told.{Records}
use Rattle.oc_merge.specs.declared.fault.Most.TheVariants as mosts
use Rattle.oc_merge.specs.declared.fault.RecordsFault.{RecordsFault}
use Rattle.oc_merge.specs.declared.fault.RecordsFault.TheVariants as record_faults
use Rattle.oc_merge.specs.declared.merge_end.MergeEnd.{MergeEnd}
use Rattle.oc_merge.specs.declared.merge_end.MergeEnd.TheVariants as merges
use Rattle.oc_replay.specs.declared.end.ReplayEnd.{ReplayEnd}
use Rattle.oc_replay.specs.declared.end.ReplayEnd.TheVariants as replays
use Rattle.oc_schedule.specs.Schedule.{read_lines, schedule_of}
use Rattle.oc_schedule.specs.Limits.{most_of}
use Rattle.oc_schedule.specs.declared.fault.ScheduleFault.TheVariants as faults
use Rattle.oc_schedule.specs.declared.fault.What.TheVariants as limits
use Rattle.oc_schedule.specs.declared.scale.Scale.{Scale}
use Rattle.oc_words.specs.declared.request.Invocation.{Invocation}
use Rattle.oc_words.specs.declared.request.Invocation.TheVariants.{Help, Version, Gen, Merge, Replay, Rules}
use Rattle.oc_words.specs.declared.request.Sample.{Sample}
use Rattle.oc_commands.specs.AtGen.{HappenedAtGen}
use Rattle.oc_commands.specs.AtMerge.{HappenedAtMerge, HasRecordsStatus, IsStatusOfRecords, status_of_merged}
use Rattle.oc_commands.specs.AtReplay.{HappenedAtReplay, HasStatus, scale_of, status_for}
use Rattle.oc_commands.specs.AtRules.{HappenedAtRules, HasConfigStatus}
use Rattle.oc_commands.specs.Complete.{IsDoneOrMemory}
use Rattle.oc_commands.specs.Ends.{status_of, status_of_gen, status_of_records, status_of_replay, status_of_rules}
use Rattle.oc_commands.specs.Outside.{Input, OnError, OnFiles, OnLink, OnNode, OnStage, Outside, Output, at_source}
use Rattle.oc_commands.specs.Run.{Happened}
use Rattle.oc_words.specs.Status.{number_of}
use Rattle.oc_commands.specs.declared.configuring.ConfigEnd.TheVariants as configs
use Rattle.oc_commands.specs.declared.ending.End.{End}
use Rattle.oc_commands.specs.declared.ending.End.TheVariants.{Helped, HelpFailed, Versioned, VersionFailed, Misused, NoMemory, Replayed, Generated, Merged, Listed, Checked, CheckedConfigured, NoToken, Got, Published, Served}
use Rattle.oc_commands.specs.declared.generating.GenEnd.{GenEnd}
use Rattle.oc_commands.specs.declared.generating.GenEnd.TheVariants as gens
use Rattle.oc_commands.specs.declared.merging.RecordsEnd.{RecordsEnd}
use Rattle.oc_commands.specs.declared.merging.RecordsEnd.TheVariants as records
use Rattle.oc_commands.specs.declared.listing.RulesEnd.{RulesEnd}
use Rattle.oc_commands.specs.declared.listing.RulesEnd.TheVariants as lists
use Rattle.oc_commands.proofs.AnyLine.{status_read}
use Rattle.oc_commands.proofs.Completes.{IsSound}
use Rattle.oc_commands.proofs.Tokens.{untokened}

-- a text that is too long has the status of a limit
long_status : (scale : Scale) (bytes : List ℕ) → most_of scale limits.Bytes < length bytes → status_for (schedule_of scale bytes) ≡ 5
long_status scale bytes long =
    ap (λ b. status_for (cond b (Err (faults.Limit limits.Bytes)) (read_lines scale 1 None (lines bytes)))) (lt-ltb (most_of scale limits.Bytes) (length bytes) long)

-- words that ask for two replays ask for one of one scale
pub same_scale : (asked : Option Invocation) (large summary : Bool) (file : Option (List ℕ)) (big short : Bool) (name : Option (List ℕ))
    → asked ≡ Some (Replay large summary file) → asked ≡ Some (Replay big short name) → big ≡ large
same_scale asked large summary file big short name is also = cc

-- help was written where the output is sound
pub helped : (o : Outside) → IsSound o.output → (end : End) → o.asked ≡ Some Help → Happened o end → IsDoneOrMemory (number_of (status_of end))
helped o sound Helped is h = inl refl
helped o sound HelpFailed is h = let (a, (text, cut), u, n) = h in absurd (sound text cut)
helped o sound Versioned is h = let also = h.0 in cc
helped o sound VersionFailed is h = let also = h.0 in cc
helped o sound Misused is h = let also = h.0 in cc
helped o sound NoMemory is h = inr refl
helped o sound (Replayed large end) is h = let also = h.0.2 in cc
helped o sound (Generated end) is h = let also = h.0.1 in cc
helped o sound (Merged end) is h = let also = h.0 in cc
helped o sound (Listed end) is h = let also = h.0.1 in cc
helped o sound (Checked end) is h = let also = h.0.2 in cc
helped o sound (CheckedConfigured end) is h = let also = h.0.2 in cc
helped o sound (NoToken end) is h = absurd (untokened o.asked Help h.0.0 is refl h.0.1)
helped o sound (Got end) is h = let also = h.0.1 in cc
helped o sound (Published end) is h = let also = h.0.1 in cc
helped o sound (Served end) is h = let also = h.0.2 in cc

-- the version was written where the output is sound
pub versioned : (o : Outside) → IsSound o.output → (end : End) → o.asked ≡ Some Version → Happened o end → IsDoneOrMemory (number_of (status_of end))
versioned o sound Helped is h = let also = h.0 in cc
versioned o sound HelpFailed is h = let also = h.0 in cc
versioned o sound Versioned is h = inl refl
versioned o sound VersionFailed is h = let (a, (n, cut), u, m) = h in absurd (sound _ cut)
versioned o sound Misused is h = let also = h.0 in cc
versioned o sound NoMemory is h = inr refl
versioned o sound (Replayed large end) is h = let also = h.0.2 in cc
versioned o sound (Generated end) is h = let also = h.0.1 in cc
versioned o sound (Merged end) is h = let also = h.0 in cc
versioned o sound (Listed end) is h = let also = h.0.1 in cc
versioned o sound (Checked end) is h = let also = h.0.2 in cc
versioned o sound (CheckedConfigured end) is h = let also = h.0.2 in cc
versioned o sound (NoToken end) is h = absurd (untokened o.asked Version h.0.0 is refl h.0.1)
versioned o sound (Got end) is h = let also = h.0.1 in cc
versioned o sound (Published end) is h = let also = h.0.1 in cc
versioned o sound (Served end) is h = let also = h.0.2 in cc

-- `gen` is done where the output is sound
gen_done : (output : Output) → IsSound output → (sample : Sample) (end : GenEnd) → HappenedAtGen output sample end → IsDoneOrMemory (number_of (status_of_gen end))
gen_done output sound sample gens.Done h = inl refl
gen_done output sound sample gens.Sink h = absurd (sound _ h.1)
gen_done output sound sample gens.Memory h = inr refl

pub generated : (o : Outside) → IsSound o.output → (sample : Sample) (end : End) → o.asked ≡ Some (Gen sample) → Happened o end → IsDoneOrMemory (number_of (status_of end))
generated o sound sample Helped is h = let also = h.0 in cc
generated o sound sample HelpFailed is h = let also = h.0 in cc
generated o sound sample Versioned is h = let also = h.0 in cc
generated o sound sample VersionFailed is h = let also = h.0 in cc
generated o sound sample Misused is h = let also = h.0 in cc
generated o sound sample NoMemory is h = inr refl
generated o sound sample (Replayed large end) is h = let also = h.0.2 in cc
generated o sound sample (Generated end) is h = gen_done o.output sound h.0.0 end h.0.2
generated o sound sample (Merged end) is h = let also = h.0 in cc
generated o sound sample (Listed end) is h = let also = h.0.1 in cc
generated o sound sample (Checked end) is h = let also = h.0.2 in cc
generated o sound sample (CheckedConfigured end) is h = let also = h.0.2 in cc
generated o sound sample (NoToken end) is h = absurd (untokened o.asked (Gen sample) h.0.0 is refl h.0.1)
generated o sound sample (Got end) is h = let also = h.0.1 in cc
generated o sound sample (Published end) is h = let also = h.0.1 in cc
generated o sound sample (Served end) is h = let also = h.0.2 in cc

-- the number of the status of a merge
merged_number : (end : MergeEnd) → number_of (status_of_records (records.Merged end)) ≡ status_of_merged end
merged_number merges.Whole = refl
merged_number (merges.State line) = refl
merged_number (merges.Unsent line) = refl

module _ {S : Type 0} (gives fails : S → List ℕ → S → Type 0) (ended : S → Type 0) (faulty : S → ℕ) (old new : S) (output : Output) (stage : OnStage)
    (unfailed : Rose (faulty old) (faulty new) → ⊥) (sound : IsSound output) where
  -- the status for the records in these bytes
  status_by : (bytes : List ℕ) → gives old bytes new → ended new ⊎ (records_of bytes ≡ Err (record_faults.Limit mosts.Bytes)) → (told : Result Records RecordsFault)
      → records_of bytes ≡ told → {status : ℕ} → IsStatusOfRecords told status → HasRecordsStatus gives ended old new status
  status_by bytes came whole told read {status} is = record {
    bytes = bytes;
    came = came;
    whole = whole;
    status_is = subst (λ (r : Result Records RecordsFault). IsStatusOfRecords r status) (sym read) is;
  }

  -- the status of a replay is that of its input
  replay_has : (scale : Scale) (summary : Bool) (end : ReplayEnd) → HappenedAtReplay (at_source gives fails ended faulty old new) output stage scale summary end
      → HasStatus scale gives ended old new (number_of (status_of_replay end)) ⊎ (number_of (status_of_replay end) ≡ 4)
  replay_has scale summary replays.Done h = let (s, says, is, written, played, holds) = h in inl (record { bytes = says.bytes; came = says.came; whole = inl says.whole; status_is = sym (ap status_for says.read) })
  replay_has scale summary (replays.Text line why) h = let says = h.0 in inl (record { bytes = says.bytes; came = says.came; whole = inl says.whole; status_is = sym (ap status_for says.read) })
  replay_has scale summary (replays.Limit limits.Bytes) h = let (bytes, came, long) = h.0 in inl (record { bytes = bytes; came = came; whole = inr long; status_is = sym (long_status scale bytes long) })
  replay_has scale summary (replays.Limit limits.Lines) h = let says = h.0 in inl (record { bytes = says.bytes; came = says.came; whole = inl says.whole; status_is = sym (ap status_for says.read) })
  replay_has scale summary (replays.Limit limits.Published) h = let says = h.0 in inl (record { bytes = says.bytes; came = says.came; whole = inl says.whole; status_is = sym (ap status_for says.read) })
  replay_has scale summary (replays.Limit limits.Settles) h = let says = h.0 in inl (record { bytes = says.bytes; came = says.came; whole = inl says.whole; status_is = sym (ap status_for says.read) })
  replay_has scale summary replays.Source h = absurd (unfailed h.0.1)
  replay_has scale summary replays.Sink h = let (s, says, is, cut, played, holds) = h in absurd (sound _ cut.1)
  replay_has scale summary replays.Memory h = inr refl

  -- the status of a merge
  merge_has : (end : RecordsEnd) → HappenedAtMerge (at_source gives fails ended faulty old new) output end
      → HasRecordsStatus gives ended old new (number_of (status_of_records end)) ⊎ (number_of (status_of_records end) ≡ 4)
  merge_has (records.Merged end) h =
      let (r, told, text, is, written) = h in
      inl (status_by told.0 told.1.0 (inl told.1.1) (Ok r) told.2 (text, end, is, merged_number end))
  merge_has (records.Text line cause) h = let told = h.0 in inl (status_by told.0 told.1.0 (inl told.1.1) _ told.2 refl)
  merge_has (records.Limit mosts.Bytes) h = let (bytes, came, long) = h.0 in inl (status_by bytes came (inr long) _ long refl)
  merge_has (records.Limit mosts.Lines) h = let told = h.0 in inl (status_by told.0 told.1.0 (inl told.1.1) _ told.2 refl)
  merge_has (records.Limit mosts.Published) h = let told = h.0 in inl (status_by told.0 told.1.0 (inl told.1.1) _ told.2 refl)
  merge_has records.Source h = absurd (unfailed h.0.1)
  merge_has records.Sink h = let (r, told, text, end, is, cut) = h in absurd (sound _ cut.1)
  merge_has records.Memory h = inr refl

  -- the status of `rules`
  rules_have : (end : RulesEnd) → HappenedAtRules (at_source gives fails ended faulty old new) output end
      → HasConfigStatus gives ended old new (number_of (status_of_rules end)) ⊎ (number_of (status_of_rules end) ≡ 4)
  rules_have lists.Done h = let (settings, read, wrote) = h in let (bytes, whole, is) = read in inl (record { bytes = bytes; came = whole.0; status_is = inl (whole.1, sym (status_read is.line bytes _ is.gives)) })
  rules_have lists.Sink h = let (settings, read, wrote) = h in let (text, listing, cut) = wrote in absurd (sound _ cut.1)
  rules_have lists.Memory h = inr refl
  rules_have (lists.Config configs.Source) h = absurd (unfailed h.0.1)
  rules_have (lists.Config configs.Long) h = let (bytes, came, long) = h.0 in inl (record { bytes = bytes; came = came; status_is = inr (long, refl) })
  rules_have (lists.Config (configs.Fault config_faults.Memory)) h = inr refl
  rules_have (lists.Config (configs.Fault (config_faults.Toml line))) h = let (bytes, whole, is) = h.0 in inl (record { bytes = bytes; came = whole.0; status_is = inl (whole.1, sym (status_read is.line bytes _ is.gives)) })
  rules_have (lists.Config (configs.Fault (config_faults.Missing place key))) h = let (bytes, whole, is) = h.0 in inl (record { bytes = bytes; came = whole.0; status_is = inl (whole.1, sym (status_read is.line bytes _ is.gives)) })
  rules_have (lists.Config (configs.Fault (config_faults.Value place key))) h = let (bytes, whole, is) = h.0 in inl (record { bytes = bytes; came = whole.0; status_is = inl (whole.1, sym (status_read is.line bytes _ is.gives)) })
  rules_have (lists.Config (configs.Fault (config_faults.Repeat place id))) h = let (bytes, whole, is) = h.0 in inl (record { bytes = bytes; came = whole.0; status_is = inl (whole.1, sym (status_read is.line bytes _ is.gives)) })
  rules_have (lists.Config (configs.Fault (config_faults.Measure number why))) h = let (bytes, whole, is) = h.0 in inl (record { bytes = bytes; came = whole.0; status_is = inl (whole.1, sym (status_read is.line bytes _ is.gives)) })
  rules_have (lists.Config (configs.Fault (config_faults.Unknown place key))) h = let (bytes, whole, is) = h.0 in inl (record { bytes = bytes; came = whole.0; status_is = inl (whole.1, sym (status_read is.line bytes _ is.gives)) })

  module _ (asked : Option Invocation) (error : OnError) (files : OnFiles) (link : OnLink) (token : Input) (node : OnNode) where
    abbrev outside : Outside
    outside = record { asked = asked; input = at_source gives fails ended faulty old new; output = output; error = error; stage = stage; files = files; link = link; token = token; node = node }

    pub replayed : (large summary : Bool) (file : Option (List ℕ)) (end : End) → asked ≡ Some (Replay large summary file) → Happened outside end
        → HasStatus (scale_of large) gives ended old new (number_of (status_of end)) ⊎ (number_of (status_of end) ≡ 4)
    replayed large summary file Helped is h = let also = h.0 in cc
    replayed large summary file HelpFailed is h = let also = h.0 in cc
    replayed large summary file Versioned is h = let also = h.0 in cc
    replayed large summary file VersionFailed is h = let also = h.0 in cc
    replayed large summary file Misused is h = let also = h.0 in cc
    replayed large summary file NoMemory is h = inr refl
    replayed large summary file (Replayed big end) is h =
        subst (λ (b : Bool). HasStatus (scale_of b) gives ended old new (number_of (status_of_replay end)) ⊎ (number_of (status_of_replay end) ≡ 4))
        (same_scale asked large summary file big h.0.0 h.0.1 is h.0.2) (replay_has (scale_of big) h.0.0 end h.0.3)
    replayed large summary file (Generated end) is h = let also = h.0.1 in cc
    replayed large summary file (Merged end) is h = let also = h.0 in cc
    replayed large summary file (Listed end) is h = let also = h.0.1 in cc
    replayed large summary file (Checked end) is h = let also = h.0.2 in cc
    replayed large summary file (CheckedConfigured end) is h = let also = h.0.2 in cc
    replayed large summary file (NoToken end) is h = absurd (untokened asked (Replay large summary file) h.0.0 is refl h.0.1)
    replayed large summary file (Got end) is h = let also = h.0.1 in cc
    replayed large summary file (Published end) is h = let also = h.0.1 in cc
    replayed large summary file (Served end) is h = let also = h.0.2 in cc

    pub merged : (end : End) → asked ≡ Some Merge → Happened outside end
        → HasRecordsStatus gives ended old new (number_of (status_of end)) ⊎ (number_of (status_of end) ≡ 4)
    merged Helped is h = let also = h.0 in cc
    merged HelpFailed is h = let also = h.0 in cc
    merged Versioned is h = let also = h.0 in cc
    merged VersionFailed is h = let also = h.0 in cc
    merged Misused is h = let also = h.0 in cc
    merged NoMemory is h = inr refl
    merged (Replayed large end) is h = let also = h.0.2 in cc
    merged (Generated end) is h = let also = h.0.1 in cc
    merged (Merged end) is h = merge_has end h.1
    merged (Listed end) is h = let also = h.0.1 in cc
    merged (Checked end) is h = let also = h.0.2 in cc
    merged (CheckedConfigured end) is h = let also = h.0.2 in cc
    merged (NoToken end) is h = absurd (untokened asked Merge h.0.0 is refl h.0.1)
    merged (Got end) is h = let also = h.0.1 in cc
    merged (Published end) is h = let also = h.0.1 in cc
    merged (Served end) is h = let also = h.0.2 in cc

    pub listed : (file : Option (List ℕ)) (end : End) → asked ≡ Some (Rules file) → Happened outside end
        → HasConfigStatus gives ended old new (number_of (status_of end)) ⊎ (number_of (status_of end) ≡ 4)
    listed file Helped is h = let also = h.0 in cc
    listed file HelpFailed is h = let also = h.0 in cc
    listed file Versioned is h = let also = h.0 in cc
    listed file VersionFailed is h = let also = h.0 in cc
    listed file Misused is h = let also = h.0 in cc
    listed file NoMemory is h = inr refl
    listed file (Replayed large end) is h = let also = h.0.2 in cc
    listed file (Generated end) is h = let also = h.0.1 in cc
    listed file (Merged end) is h = let also = h.0 in cc
    listed file (Listed end) is h = rules_have end h.1
    listed file (Checked end) is h = let also = h.0.2 in cc
    listed file (CheckedConfigured end) is h = let also = h.0.2 in cc
    listed file (NoToken end) is h = absurd (untokened asked (Rules file) h.0.0 is refl h.0.1)
    listed file (Got end) is h = let also = h.0.1 in cc
    listed file (Published end) is h = let also = h.0.1 in cc
    listed file (Served end) is h = let also = h.0.2 in cc
