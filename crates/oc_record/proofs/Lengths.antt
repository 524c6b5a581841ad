-- The length of a list of records as bytes.
use Rattle.std.proofs.Common.{◌≡◌, ℕ, ◌*◌, List, [], ◌∷◌, length, arith, length-append}
use Rattle.std.specs.List.{flat_map}
use Rattle.oc_base.specs.Spelling.{four}
use Rattle.oc_model.specs.declared.record.Record.{Record}
use Rattle.oc_model.specs.declared.record.Record.TheVariants.{Ask, Joined, Lost, Acting, Ranked, OldEntry, Acked, Ancestors, Rate, Epoch, Base, Snapshot, Entry, Info}
use Rattle.oc_laws_step.specs.Sizes.{total, size_of}
use Rattle.oc_record.specs.Spelling.{record_bytes, records_bytes}

-- four bytes for each id
ids_length : (ids : List ℕ) → length (flat_map four ids) ≡ 4 * length ids
ids_length [] = omega arith
ids_length (x ∷ ids) = omega (arith, length-append (four x) (flat_map four ids), ids_length ids)

record_length : (r : Record) → length (record_bytes r) ≡ size_of r
record_length (Ask seq peer) = omega arith
record_length (Joined peer rank) = omega arith
record_length Lost = omega arith
record_length Acting = omega arith
record_length (Ranked rank) = omega arith
record_length (OldEntry subject seq parent dead) = omega arith
record_length (Acked upto) = omega arith
record_length (Ancestors ids) = omega (arith, ids_length ids)
record_length (Rate peer rate hops) = omega arith
record_length (Epoch epoch) = omega arith
record_length (Base acked) = omega arith
record_length (Snapshot generation) = omega arith
record_length (Entry cert) = omega arith
record_length (Info number clients) = omega arith

-- the sum of the lengths of the records
pub records_length : (list : List Record) → length (records_bytes list) ≡ total size_of list
records_length [] = omega arith
records_length (r ∷ list) = omega (arith, length-append (record_bytes r) (records_bytes list), record_length r, records_length list)
