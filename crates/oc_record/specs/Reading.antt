-- The control records in bytes, with the first fault from the left.
use Rattle.std.specs.Prelude.{◌≡◌, ℕ, zero, suc, ◌==◌, nat_lt, if◌then◌else◌, Result, Ok, Err, List, [], ◌∷◌, length}
use Rattle.std.specs.Global.{Vec}
use Rattle.std.specs.Int.{w64}
use Rattle.oc_base.specs.declared.limits.TheConstants.{MAX_BASE_ACKED}
use Rattle.oc_base.specs.Steps.{◌>>=◌}
use Rattle.oc_base.specs.Reading.{Reading, within_at, byte_at, long_at, count_at, id_at, rate_at, flag_at, one_field, two_fields, three_fields, four_fields, rank_at, cert_at, ancestors_at}
use Rattle.oc_model.specs.declared.record.Record.{Record}
use Rattle.oc_model.specs.declared.record.Record.TheVariants.{Ask, Joined, Lost, Acting, Ranked, OldEntry, Acked, Ancestors, Rate, Epoch, Base, Snapshot, Entry, Info}
use Rattle.oc_record.specs.declared.fault.RecordFault.{RecordFault}
use Rattle.oc_record.specs.declared.fault.RecordFault.TheVariants as faults
use Rattle.oc_record.specs.Faults.{of_field}

-- The fields of each kind, in the order of the bytes

unfoldable pub ask_at : ℕ → List ℕ → ℕ → Reading Record
ask_at nodes bytes at = two_fields (count_at bytes) (id_at nodes bytes) Ask at

unfoldable pub joined_at : ℕ → List ℕ → ℕ → Reading Record
joined_at nodes bytes at = two_fields (id_at nodes bytes) (rank_at bytes) Joined at

unfoldable pub ranked_at : List ℕ → ℕ → Reading Record
ranked_at bytes at = one_field (rank_at bytes) Ranked at

unfoldable pub old_entry_at : ℕ → List ℕ → ℕ → Reading Record
old_entry_at nodes bytes at = four_fields (id_at nodes bytes) (count_at bytes) (id_at nodes bytes) (flag_at bytes) OldEntry at

unfoldable pub acked_at : List ℕ → ℕ → Reading Record
acked_at bytes at = one_field (long_at bytes) Acked at

unfoldable pub ancestors_record_at : ℕ → List ℕ → ℕ → Reading Record
ancestors_record_at nodes bytes at = one_field (ancestors_at nodes bytes) Ancestors at

unfoldable pub rate_record_at : ℕ → List ℕ → ℕ → Reading Record
rate_record_at nodes bytes at = three_fields (id_at nodes bytes) (rate_at bytes) (byte_at bytes) Rate at

unfoldable pub epoch_at : List ℕ → ℕ → Reading Record
epoch_at bytes at = one_field (long_at bytes) Epoch at

unfoldable pub base_at : List ℕ → ℕ → Reading Record
base_at bytes at = one_field (within_at w64 0 MAX_BASE_ACKED bytes) Base at

unfoldable pub snapshot_at : List ℕ → ℕ → Reading Record
snapshot_at bytes at = one_field (count_at bytes) Snapshot at

unfoldable pub entry_at : ℕ → List ℕ → ℕ → Reading Record
entry_at nodes bytes at = one_field (cert_at nodes bytes) Entry at

unfoldable pub info_at : List ℕ → ℕ → Reading Record
info_at bytes at = two_fields (count_at bytes) (long_at bytes) Info at

-- the fields of the kind with this code
unfoldable pub fields_at : ℕ → ℕ → List ℕ → ℕ → Result (Record × ℕ) RecordFault
fields_at code nodes bytes at =
    if code == 1 then of_field (ask_at nodes bytes at)
    else if code == 2 then of_field (joined_at nodes bytes at)
    else if code == 3 then Ok (Lost, at)
    else if code == 4 then Ok (Acting, at)
    else if code == 5 then of_field (ranked_at bytes at)
    else if code == 6 then of_field (old_entry_at nodes bytes at)
    else if code == 7 then of_field (acked_at bytes at)
    else if code == 8 then of_field (ancestors_record_at nodes bytes at)
    else if code == 9 then of_field (rate_record_at nodes bytes at)
    else if code == 10 then of_field (epoch_at bytes at)
    else if code == 11 then of_field (base_at bytes at)
    else if code == 12 then of_field (snapshot_at bytes at)
    else if code == 13 then of_field (entry_at nodes bytes at)
    else if code == 14 then of_field (info_at bytes at)
    else Err (faults.Kind code)

unfoldable pub record_at : ℕ → List ℕ → ℕ → Result (Record × ℕ) RecordFault
record_at nodes bytes at = do
  code ← of_field (byte_at bytes at)
  fields_at code.0 nodes bytes code.1

-- the records from an index to the end, at most this number
unfoldable pub records_at : ℕ → ℕ → List ℕ → ℕ → Result (List Record) RecordFault
records_at nodes zero bytes at = Ok []
records_at nodes (suc most) bytes at =
    if nat_lt at (length bytes) then (record_at nodes bytes at >>= λ first. records_at nodes most bytes first.1 >>= λ rest. Ok (first.0 ∷ rest)) else Ok []

-- the records of all bytes; there are no more records than bytes
abbrev pub decoded : ℕ → List ℕ → Result (List Record) RecordFault
decoded nodes bytes = records_at nodes (length bytes) bytes 0

-- a call answers the same as this read, except that memory may run out
abbrev pub Gives : {A : Type 0} → Result A RecordFault → Result A RecordFault → Type 0
Gives (Err faults.Memory) read = Unit {0}
Gives answer read = read ≡ answer

abbrev pub GivesList : Result (Vec Record) RecordFault → Result (List Record) RecordFault → Type 0
GivesList (Ok list) read = read ≡ Ok list.items
GivesList (Err faults.Memory) read = Unit {0}
GivesList (Err fault) read = read ≡ Err fault
