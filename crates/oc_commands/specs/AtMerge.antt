-- The effect of `merge` at each of its ends, and the required status.
use Rattle.std.specs.Prelude.{◌≡◌, ℕ, ◌⊎◌, [], Result, Ok, Err, List}
use Rattle.oc_index.specs.Digest.{digest}
use Rattle.oc_merge.specs.Merging.{IsMergeOf}
use Rattle.oc_merge.specs.Reading.{records_of}
use Rattle.oc_merge.specs.Recorded.{records_there}
use Rattle.oc_merge.specs.Told.{Records}
use Rattle.oc_merge.specs.declared.fault.Most.{Most}
use Rattle.oc_merge.specs.declared.fault.Most.TheVariants.{Bytes}
use Rattle.oc_merge.specs.declared.fault.RecordsFault.{RecordsFault}
use Rattle.oc_merge.specs.declared.fault.RecordsFault.TheVariants as faults
use Rattle.oc_merge.specs.declared.merge_end.MergeEnd.{MergeEnd}
use Rattle.oc_merge.specs.declared.merge_end.MergeEnd.TheVariants as merges
use Rattle.oc_replay.specs.Pieces.{SomeFront}
use Rattle.oc_schedule.specs.Printing.{script_text}
use Rattle.oc_schedule.specs.Script.{Script}
use Rattle.oc_commands.specs.Outside.{Input, Output}
use Rattle.oc_commands.specs.declared.merging.RecordsEnd.{RecordsEnd}
use Rattle.oc_commands.specs.declared.merging.RecordsEnd.TheVariants.{Merged, Text, Limit, Source, Sink, Memory}

-- the whole input came, and these are its records
abbrev pub TellsRecords : Input → Result Records RecordsFault → Type 0
TellsRecords input told = (bytes : List ℕ) × input.whole bytes × (records_of bytes ≡ told)

-- more bytes came than the limit, or the whole input came and exceeds another limit
abbrev pub PassesMost : Input → Most → Type 0
PassesMost input Bytes = (bytes : List ℕ) × input.gave bytes × (records_of bytes ≡ Err (faults.Limit Bytes))
PassesMost input most = TellsRecords input (Err (faults.Limit most))

-- the text is the schedule of all lines of the records that can be taken, without those of inputs
-- that were not taken, and this is the end of the merge
abbrev pub IsMergedText : Records → List ℕ → MergeEnd → Type 0
IsMergedText r text end = (s : Script) × IsMergeOf digest (records_there digest r) s end × (text ≡ script_text s)

-- the effect on the input if there are no records to merge
abbrev pub EndsEarly : Input → RecordsEnd → Type 0
EndsEarly input (Text line cause) = TellsRecords input (Err (faults.Line line cause))
EndsEarly input (Limit most) = PassesMost input most
EndsEarly input Source = input.failed
EndsEarly input Memory = input.came
EndsEarly input (Merged end) = ⊥
EndsEarly input Sink = ⊥

-- the effect of this end
abbrev pub HappenedAtMerge : Input → Output → RecordsEnd → Type 0
HappenedAtMerge input output (Merged end) = (r : Records) × TellsRecords input (Ok r) × (text : List ℕ) × IsMergedText r text end × output.written text
HappenedAtMerge input output Sink = (r : Records) × TellsRecords input (Ok r) × (text : List ℕ) × (end : MergeEnd) × IsMergedText r text end × SomeFront text output.cut_off
HappenedAtMerge input output end = EndsEarly input end × output.written []

-- The end to which a fault leads

abbrev pub end_of_records : RecordsFault → RecordsEnd
end_of_records (faults.Line line cause) = Text line cause
end_of_records (faults.Limit most) = Limit most
end_of_records faults.Memory = Memory

-- The status that has to come

-- the status of a merge: every line was taken, or one was not
abbrev pub status_of_merged : MergeEnd → ℕ
status_of_merged merges.Whole = 0
status_of_merged (merges.State line) = 3
status_of_merged (merges.Unsent line) = 3

-- the status for the records in a text
abbrev pub IsStatusOfRecords : Result Records RecordsFault → ℕ → Type 0
IsStatusOfRecords (Ok r) status = (text : List ℕ) × (end : MergeEnd) × IsMergedText r text end × (status ≡ status_of_merged end)
IsStatusOfRecords (Err (faults.Line line cause)) status = status ≡ 3
IsStatusOfRecords (Err (faults.Limit most)) status = status ≡ 5
IsStatusOfRecords (Err faults.Memory) status = status ≡ 4

-- these bytes came, which are the whole input, or more than records may have; the status is that of
-- their records
pub record HasRecordsStatus {S : Type 0} (gives : S → List ℕ → S → Type 0) (ended : S → Type 0) (old new : S) (status : ℕ) : Type 0 where
  pub bytes : List ℕ
  pub came : gives old bytes new
  pub whole : ended new ⊎ (records_of bytes ≡ Err (faults.Limit Bytes))
  pub status_is : IsStatusOfRecords (records_of bytes) status
