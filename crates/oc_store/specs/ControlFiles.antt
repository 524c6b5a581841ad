-- The current one of two control files, and the records that the two recover.
use Rattle.std.specs.Prelude.{◌≡◌, ℕ, suc, ◌==◌, ◌&&◌, nat_le, if◌then◌else◌, Option, None, Some, option_map, Result, Ok, Err, List, [], ◌∷◌, length, take}
use Rattle.std.specs.List.{flat_map}
use Rattle.std.specs.Int.{w64, from_be_bytes}
use Rattle.oc_journal.specs.JournalFile.{frames_of, IsNoJournal}
use Rattle.oc_model.specs.declared.record.Record.{Record}
use Rattle.oc_model.specs.declared.record.Record.TheVariants.{Snapshot}
use Rattle.oc_record.specs.declared.fault.RecordFault.{RecordFault}
use Rattle.oc_record.specs.Reading.{decoded}
use Rattle.oc_store.specs.Turning.{is_below}
use Rattle.oc_store.specs.declared.errors.Side.{Side}
use Rattle.oc_store.specs.declared.errors.Side.TheVariants.{First, Second}

-- the generation of the snapshot record that begins a body, by its code and its eight bytes; 0 if none does
abbrev pub generation_in : List ℕ → ℕ
generation_in [] = 0
generation_in (code ∷ fields) = if (code == 12) && nat_le 8 (length fields) then from_be_bytes w64 (take 8 fields) else 0

-- the generation of the snapshot that begins a list of records; 0 if none does
abbrev pub begun_generation : List Record → ℕ
begun_generation [] = 0
begun_generation (Snapshot generation ∷ records) = generation
begun_generation (first ∷ records) = 0

-- the generation of a file of these frames, by its first one; none if there is no frame
abbrev pub generation_of : List (List ℕ) → Option ℕ
generation_of [] = None
generation_of (body ∷ bodies) = Some (generation_in body)

-- the current side of two files with these frames: that of the greater generation, or the first at a tie
abbrev pub current_side : List (List ℕ) → List (List ℕ) → Side
current_side a b = if is_below (generation_of a) (generation_of b) then Second else First

-- the value of a side, from the values of both
abbrev pub at_side : {A : Type 0} → Side → A → A → A
at_side First a b = a
at_side Second a b = b

-- the frames of the current file
abbrev pub current_frames : List (List ℕ) → List (List ℕ) → List (List ℕ)
current_frames a b = at_side (current_side a b) a b

abbrev pub recovered_frames : List ℕ → List ℕ → List (List ℕ)
recovered_frames file alternate = current_frames (frames_of file) (frames_of alternate)

-- the records of a body; none if the body is not a list of records
abbrev pub or_none : Result (List Record) RecordFault → List Record
or_none (Ok records) = records
or_none (Err fault) = []

abbrev pub records_in : ℕ → List ℕ → List Record
records_in nodes body = or_none (decoded nodes body)

-- the records of all frames, in order
abbrev pub records_of : ℕ → List (List ℕ) → List Record
records_of nodes frames = flat_map (records_in nodes) frames

-- the records that two control files recover: all those of the current one
abbrev pub recovered : ℕ → List ℕ → List ℕ → List Record
recovered nodes file alternate = records_of nodes (recovered_frames file alternate)

-- the index of the first frame that is not a list of records, if there is one
abbrev pub bad_or : Result (List Record) RecordFault → Option ℕ → Option ℕ
bad_or (Ok records) later = option_map suc later
bad_or (Err fault) later = Some 0

abbrev pub first_bad : ℕ → List (List ℕ) → Option ℕ
first_bad nodes [] = None
first_bad nodes (body ∷ bodies) = bad_or (decoded nodes body) (first_bad nodes bodies)

-- a control file whose frames are all lists of records
abbrev pub IsGood : ℕ → List ℕ → Type 0
IsGood nodes file = (¬ IsNoJournal file) × (first_bad nodes (frames_of file) ≡ None)

-- a control file whose first frame that is not a list of records has this index
abbrev pub IsBadAt : ℕ → ℕ → List ℕ → Type 0
IsBadAt nodes number file = (¬ IsNoJournal file) × (first_bad nodes (frames_of file) ≡ Some number)
