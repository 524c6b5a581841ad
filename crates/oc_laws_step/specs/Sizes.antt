use Rattle.std.specs.Prelude.{ℕ, ◌+◌, ◌*◌, List, [], ◌∷◌, length}
use Rattle.oc_model.specs.declared.record.Record.{Record}
use Rattle.oc_model.specs.declared.record.Record.TheVariants as records

-- The lengths of records in a frame, in bytes.

-- the sum of f over these records
abbrev pub total : (Record → ℕ) → List Record → ℕ
total f [] = 0
total f (r ∷ rs) = f r + total f rs

-- the length of a record: its kind and its fields
abbrev pub size_of : Record → ℕ
size_of (records.Ask s p) = 13
size_of (records.Joined p r) = 17
size_of records.Lost = 1
size_of records.Acting = 1
size_of (records.Ranked r) = 13
size_of (records.OldEntry x s p dead) = 18
size_of (records.Acked upto) = 9
size_of (records.Ancestors xs) = 3 + 4 * length xs
size_of (records.Rate p rate hops) = 14
size_of (records.Epoch e) = 9
size_of (records.Base n) = 9
size_of (records.Snapshot g) = 9
size_of (records.Entry c) = 34
size_of (records.Info n c) = 17
